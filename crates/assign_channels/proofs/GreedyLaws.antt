-- The greedy choice is the least: it is a choice where the threshold condition holds, no choice comes before it,
-- and where the condition does not hold there is none. `Choice` is the statement of Choice by the list, a channel
-- that is taken having no units left. Assumes nothing.
use Prim.Native.Nat.{ℕ, zero, suc, ◌+◌, ◌≤◌, ◌<◌}
use mathlib.Core.Path.{◌≡◌, refl, sym, subst}
use mathlib.Core.Logic.{◌⊎◌, inl, inr, ⊎_elim}
use mathlib.Core.List.{List, [], ◌∷◌}
use native.Mathlib.Nat.{eq-or-lt_of_le}
use native.Mathlib.Omega.{arith}
use lib.Dec.{leb}
use lib.ListN.{length, get_or, set, length-set}
use borrow.Author.Tests.{leb-true, leb-false}
use Rattle.numbers.proofs.Order.{le-or-lt}
use Rattle.numbers.proofs.Tests.{by_bool, never}
use Rattle.numbers.specs.declared.ChannelNumber.{ChannelNumber}
use Rattle.assign_channels.specs.Choice.{total, LexLe}
use Rattle.assign_channels.specs.Greedy.{Hall, hall_b, lowest_from, lowest_of, picks}
use Rattle.assign_channels.proofs.HallLaws.{ge-yes, ge-cases, cnt-set, best-fit, hall-step, hall-zero}
use Rattle.assign_channels.proofs.HallLaws.{channel-below, hall-sound, hall-complete}

abbrev pub Choice : List ℕ → List ℕ → List ChannelNumber → Type 0
Choice counts [] [] = Unit {0}
Choice counts [] (c ∷ cs) = ⊥
Choice counts (n ∷ ns) [] = ⊥
Choice counts (zero ∷ ns) (c ∷ cs) = (c.0 ≡ 0) × Choice counts ns cs
Choice counts (suc n ∷ ns) (c ∷ cs) = (suc n ≤ get_or counts c.0 0) × Choice (set counts c.0 0) ns cs

-- where there is a choice the condition holds
pub choice-hall : (ns : List ℕ) (cs : List ChannelNumber) (counts : List ℕ) → Choice counts ns cs → Hall counts ns
choice-hall [] cs counts h t p = omega arith
choice-hall (n ∷ ns) [] counts h t p = absurd h
choice-hall (zero ∷ ns) (c ∷ cs) counts h t p =
    let i = choice-hall ns cs counts h.1 t p in
    ⊎_elim (λ a. omega arith) (λ a. omega arith) (ge-cases t 0)
choice-hall (suc n ∷ ns) (c ∷ cs) counts h t p =
    let i = choice-hall ns cs (set counts c.0 0) h.1 t p in
    let s = cnt-set t p counts c.0 in
    let l = h.0 in
    ⊎_elim (λ a. ⊎_elim (λ b. omega arith) (λ b. omega arith) (ge-cases t (get_or counts c.0 0))) (λ a. omega arith) (ge-cases t (suc n))

-- the lowest channel with n units after which the rest can be served
pub record LowestAt (counts : List ℕ) (n : ℕ) (rest : List ℕ) (from c : ℕ) : Type 0 where
  pub fits : n ≤ get_or counts c 0
  pub after : Hall (set counts c 0) rest
  pub none : (b : ℕ) → from ≤ b → b < c → n ≤ get_or counts b 0 → Hall (set counts b 0) rest → ⊥

module _ (counts : List ℕ) (n : ℕ) (rest : List ℕ) where
  passed : (c b : ℕ) → (n ≤ get_or counts c 0 → Hall (set counts c 0) rest → ⊥) → c ≡ b → n ≤ get_or counts b 0 → Hall (set counts b 0) rest → ⊥
  passed c b h e f = subst (λ (x : ℕ). n ≤ get_or counts x 0 → Hall (set counts x 0) rest → ⊥) e h f

  skip : (k c d : ℕ) → (n ≤ get_or counts c 0 → Hall (set counts c 0) rest → ⊥) → LowestAt counts n rest (suc c) d → LowestAt counts n rest c d
  skip k c d h l = record {
    fits = l.fits;
    after = l.after;
    none = λ b p q f g. ⊎_elim (λ e. passed c b h e f g) (λ m. l.none b m q f g) (eq-or-lt_of_le p);
  }

  -- the search finds it where some channel will do
  find : (k c : ℕ) → ((b : ℕ) → c ≤ b → b < c + k → n ≤ get_or counts b 0 → Hall (set counts b 0) rest → ⊥)
      ⊎ LowestAt counts n rest c (lowest_from counts n rest k c)
  unfolding lowest_from
  find zero c = inl (λ b p q f g. omega arith)
  find (suc k) c =
      by_bool (leb n (get_or counts c 0))
      (λ t. by_bool (hall_b (set counts c 0) rest)
      (λ u. inr (rw (t, u)
      (record { fits = leb-true n (get_or counts c 0) t; after = hall-sound (set counts c 0) rest u; none = λ b p q f g. omega arith })))
      (λ u.
      let no : n ≤ get_or counts c 0 → Hall (set counts c 0) rest → ⊥ = λ f g. never (hall-complete (set counts c 0) rest g) u in
      ⊎_elim (λ none. inl (λ b p q f g. ⊎_elim (λ e. passed c b no e f g) (λ m. none b m (omega arith) f g) (eq-or-lt_of_le p)))
      (λ l. inr (rw (t, u) (skip k c (lowest_from counts n rest k (suc c)) no l))) (find k (suc c))))
      (λ t.
      let no : n ≤ get_or counts c 0 → Hall (set counts c 0) rest → ⊥ = λ f g. omega (arith, leb-false n (get_or counts c 0) t) in
      ⊎_elim (λ none. inl (λ b p q f g. ⊎_elim (λ e. passed c b no e f g) (λ m. none b m (omega arith) f g) (eq-or-lt_of_le p)))
      (λ l. inr (rw t (skip k c (lowest_from counts n rest k (suc c)) no l))) (find k (suc c)))

  pub lowest-at : 1 ≤ n → length counts ≤ 16 → Hall counts (n ∷ rest) → LowestAt counts n rest 0 (lowest_of counts n rest)
  lowest-at p q h =
      let b = best-fit n p counts (omega (arith, h n p, ge-yes {t = n} {x = n} (omega arith))) in
      ⊎_elim (λ none. absurd (none b.at (omega arith) (omega (arith, channel-below counts b.at n p b.fits)) b.fits
      (hall-step counts n rest p h b)))
      (λ l. l) (find 16 0)

-- the greedy choice is one
pub picks-choice : (ns counts : List ℕ) → length counts ≤ 16 → Hall counts ns → Choice counts ns (picks counts ns)
unfolding picks
picks-choice [] counts q h = tt
picks-choice (zero ∷ ns) counts q h = (refl, picks-choice ns counts q (hall-zero counts ns h))
picks-choice (suc n ∷ ns) counts q h =
    let l = lowest-at counts (suc n) ns (omega arith) q h in (
      l.fits,
      picks-choice ns (set counts (lowest_of counts (suc n) ns) 0) (omega (arith, length-set counts (lowest_of counts (suc n) ns) 0)) l.after,
    )

-- and none comes before it
pub picks-least : (ns counts : List ℕ) → length counts ≤ 16 → Hall counts ns → (ds : List ChannelNumber) → Choice counts ns ds
    → LexLe (picks counts ns) ds
unfolding picks
picks-least [] counts q h ds c = tt
picks-least (n ∷ ns) counts q h [] c = absurd c
picks-least (zero ∷ ns) counts q h (d ∷ ds) c = inr (sym c.0, picks-least ns counts q (hall-zero counts ns h) ds c.1)
picks-least (suc n ∷ ns) counts q h (d ∷ ds) c =
    let l = lowest-at counts (suc n) ns (omega arith) q h in
    let e = lowest_of counts (suc n) ns in
    ⊎_elim
    (λ ge. ⊎_elim (λ s. inr (
      s,
      picks-least ns (set counts e 0) (omega (arith, length-set counts e 0)) l.after ds
          (subst (λ (x : ℕ). Choice (set counts x 0) ns ds) (sym s) c.1),
    ))
    (λ lt. inl lt) (eq-or-lt_of_le ge))
    (λ lt. absurd (l.none d.0 (omega arith) lt c.0 (choice-hall ns ds (set counts d.0 0) c.1)))
    (le-or-lt e d.0)

-- a picked channel is one of the 16
pub lowest-below : (counts : List ℕ) (n : ℕ) (rest : List ℕ) → 1 ≤ n → length counts ≤ 16 → Hall counts (n ∷ rest) → lowest_of counts n rest < 16
lowest-below counts n rest p q h = omega (arith, channel-below counts (lowest_of counts n rest) n p (lowest-at counts n rest p q h).fits)

-- where all numbers together are none, each is
pub total-none : (xs : List ℕ) → total xs ≡ 0 → (i : ℕ) → get_or xs i 0 ≡ 0
total-none [] e i = refl
total-none (x ∷ xs) e zero = omega arith
total-none (x ∷ xs) e (suc i) = total-none xs (omega arith) i
