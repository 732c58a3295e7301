-- A search that antt computes, start by start: it meets the contract of `lowest_start`. Assumes nothing.
use Rattle.std.specs.Prelude.{Option, Some, None}
use Prim.Native.Nat.{ℕ, zero, suc, ◌+◌, ◌-◌, ◌≤◌}
use mathlib.Core.Path.{◌≡◌, refl, sym, subst}
use mathlib.Core.Bool.{Bool, true, false, cond, not, ◌&&◌}
use mathlib.Core.List.{List, [], ◌∷◌}
use native.Mathlib.Nat.{eq-zero-or-pos}
use mathlib.Core.Logic.{⊎_elim}
use native.Mathlib.Omega.{arith}
use lib.Dec.{leb, ltb, eqb}
use lib.ListN.{get_or}
use borrow.Author.Tests.{leb-true, le-leb, ltb-true, lt-ltb, eqb-true, eqb-false, not-true}
use Rattle.numbers.proofs.Find.{Hit, hit, none, seek, First, first}
use Rattle.numbers.proofs.Tests.{by_bool, never, both}
use Rattle.numbers.specs.Limits.{lowest_address}
use Rattle.assign_drum.specs.declared.Area.{Area}
use Rattle.assign_drum.specs.Drum.{no_area, IsArea, LowestStart}
use Rattle.assign_drum.specs.Blocks.{end_of, Meets}
use Rattle.assign_drum.proofs.BlocksLaws.{shared, clear-free}

-- ---- the tests
abbrev pub meets_b : Area → ℕ → ℕ → Bool
meets_b a s n = ltb a.start (s + n) && (ltb s (end_of a) && ltb a.start (end_of a))

meets-sound : (a : Area) (s n : ℕ) → meets_b a s n ≡ true → Meets a s n
meets-sound a s n t =
    let p = both (ltb a.start (s + n)) (ltb s (end_of a) && ltb a.start (end_of a)) t in
    let q = both (ltb s (end_of a)) (ltb a.start (end_of a)) p.1 in
    record { before = ltb-true a.start (s + n) p.0; after = ltb-true s (end_of a) q.0; some = ltb-true a.start (end_of a) q.1 }

meets-complete : (a : Area) (s n : ℕ) → Meets a s n → meets_b a s n ≡ true
meets-complete a s n m = rw (lt-ltb a.start (s + n) m.before, lt-ltb s (end_of a) m.after, lt-ltb a.start (end_of a) m.some) refl

abbrev pub clear_b : List Area → ℕ → ℕ → Bool
clear_b [] s n = true
clear_b (a ∷ bs) s n = not (meets_b a s n) && clear_b bs s n

clear-sound : (held : List Area) (s n : ℕ) → clear_b held s n ≡ true → (k : ℕ) → Meets (get_or held k no_area) s n → ⊥
clear-sound [] s n t k m = omega (arith, m.some)
clear-sound (a ∷ bs) s n t zero m = never (meets-complete a s n m) (not-true (meets_b a s n) (both (not (meets_b a s n)) (clear_b bs s n) t).0)
clear-sound (a ∷ bs) s n t (suc k) m = clear-sound bs s n (both (not (meets_b a s n)) (clear_b bs s n) t).1 k m

clear-complete : (held : List Area) (s n : ℕ) → ((k : ℕ) → Meets (get_or held k no_area) s n → ⊥) → clear_b held s n ≡ true
clear-complete [] s n h = refl
clear-complete (a ∷ bs) s n h =
    by_bool (meets_b a s n) (λ t. absurd (h 0 (meets-sound a s n t)))
    (λ t. rw t (clear-complete bs s n (λ k. h (suc k))))

unfoldable pub area_b : List Area → ℕ → ℕ → ℕ → Bool
area_b held size n s = leb lowest_address s && (leb (s + n) size && clear_b held s n)

module _ (held : List Area) (size n : ℕ) (some : 1 ≤ n) where
  area-sound : (s : ℕ) → area_b held size n s ≡ true → IsArea held size n s
  unfolding area_b
  area-sound s t =
      let q = both (leb lowest_address s) (leb (s + n) size && clear_b held s n) t in
      let p = both (leb (s + n) size) (clear_b held s n) q.1 in
      record { low = leb-true lowest_address s q.0; high = leb-true (s + n) size p.0; free = clear-free held n s (clear-sound held s n p.1) }

  area-complete : (s : ℕ) → IsArea held size n s → area_b held size n s ≡ true
  unfolding area_b
  area-complete s a =
      rw (le-leb lowest_address s a.low, le-leb (s + n) size a.high)
      (clear-complete held s n (λ k m. let x = shared (get_or held k no_area) s n some m in a.free x.0 x.1.0 x.1.1.0 k x.1.1.1))

-- ---- the first start that passes
abbrev pub found : Hit → Option ℕ
found (hit s) = Some s
found none = None

-- the first number that passes, by cases, so that antt computes no further than to it; and that it is the one sought
abbrev pub soon : (ℕ → Bool) → ℕ → ℕ → Hit
soon f zero k = none
soon f (suc n) k = elim (f k) [ true ↦ hit k | false ↦ soon f n (suc k) ]

soon_step : (f : ℕ → Bool) (n k : ℕ) (v : Bool) → f k ≡ v → soon f n (suc k) ≡ seek f n (suc k)
    → soon f (suc n) k ≡ cond v (hit k) (seek f n (suc k))
soon_step f n k true e h = rw (e, soon) refl
soon_step f n k false e h = rw (e, soon) h

soon_is : (f : ℕ → Bool) (n k : ℕ) → soon f n k ≡ seek f n k
soon_is f zero k = refl
soon_is f (suc n) k = soon_step f n k (f k) refl (soon_is f n (suc k))

soon_first : (f : ℕ → Bool) (n k : ℕ) → First f n k (soon f n k)
soon_first f n k = subst (First f n k) (sym (soon_is f n k)) (first f n k)

unfoldable pub start_of : List Area → ℕ → ℕ → Option ℕ
start_of held size n = cond (eqb n 0) (Some 0) (found (soon (area_b held size n) (size - lowest_address) lowest_address))

found-answers : (held : List Area) (size n : ℕ) → 1 ≤ n → (h : Hit) → First (area_b held size n) (size - lowest_address) lowest_address h
    → LowestStart held size n (found h)
found-answers held size n p (hit s) f = (
  (λ o. area-sound held size n p s f.0),
  λ b h a. f.1 b (a p).low h (area-complete held size n p b (a p)),
)
found-answers held size n p none f = λ b a. f b (a p).low (omega (arith, (a p).high, (a p).low)) (area-complete held size n p b (a p))

-- the computed start is an answer
pub start-answers : (held : List Area) (size n : ℕ) → LowestStart held size n (start_of held size n)
unfolding start_of
start-answers held size n =
    by_bool (eqb n 0)
    (λ t. rw t ((λ h. absurd (omega (arith, eqb-true n 0 t))), λ b h a. omega arith))
    (λ t. rw t (found-answers held size n (⊎_elim (λ e. absurd (eqb-false n 0 t e)) (λ p. p) (eq-zero-or-pos n))
    (soon (area_b held size n) (size - lowest_address) lowest_address)
    (soon_first (area_b held size n) (size - lowest_address) lowest_address)))
