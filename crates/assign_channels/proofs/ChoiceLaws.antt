-- What the definitions of Choice mean: the statement for each logical channel and the one by the list say the same;
-- the greedy choice meets the promise; and the promise leaves one answer. Assumes nothing.
use Prim.Native.Nat.{ℕ, zero, suc, ◌≤◌, ◌<◌, suc-le-suc}
use mathlib.Core.Path.{◌≡◌, refl, sym, ap, ◌∙◌, subst}
use mathlib.Core.Bool.{Bool, true, false}
use mathlib.Core.Logic.{inr, ⊎_elim}
use mathlib.Core.List.{List, [], ◌∷◌}
use native.Mathlib.Nat.{le_of_suc-le-suc}
use native.Mathlib.Omega.{arith}
use lib.Dec.{leb}
use lib.ListN.{length, get_or, set, replicate}
use borrow.Author.Tests.{leb-true, leb-false}
use Rattle.numbers.proofs.Tests.{by_bool, never}
use Rattle.numbers.specs.declared.ChannelNumber.{ChannelNumber}
use Rattle.assign_channels.specs.declared.ByChannel.{ByChannel}
use Rattle.assign_channels.specs.declared.ByLogical.{ByLogical}
use Rattle.assign_channels.specs.declared.Picks.{Picks}
use Rattle.assign_channels.specs.Choice.{channel, by_channel, by_logical, on, total, Placed, LexLe, Least, NoList, Answer, LeastList}
use Rattle.assign_channels.specs.Greedy.{hall_b, picks, choose_of}
use Rattle.assign_channels.proofs.HallLaws.{hall-sound, hall-complete, channel-below}
use Rattle.assign_channels.proofs.GreedyLaws.{Choice, choice-hall, picks-choice, picks-least}

-- ---- the two statements of a choice
-- what a list asks for at a place, 0 past its end
abbrev want : List ℕ → ℕ → ℕ
want ns i = get_or ns i 0

-- a list of channels for a list of counts, counted from 0
pub record Each (counts ns : List ℕ) (cs : List ChannelNumber) : Type 0 where
  pub long : length cs ≡ length ns
  pub fits : (i : ℕ) → 1 ≤ want ns i → want ns i ≤ get_or counts (on cs i) 0
  pub own : (i j : ℕ) → i < j → 1 ≤ want ns i → 1 ≤ want ns j → on cs i ≡ on cs j → ⊥
  pub none : (i : ℕ) → i < length ns → want ns i ≡ 0 → on cs i ≡ 0

set-le : (xs : List ℕ) (c k : ℕ) → get_or (set xs c 0) k 0 ≤ get_or xs k 0
set-le [] c k = omega arith
set-le (x ∷ xs) zero zero = omega arith
set-le (x ∷ xs) zero (suc k) = omega arith
set-le (x ∷ xs) (suc c) zero = omega arith
set-le (x ∷ xs) (suc c) (suc k) = set-le xs c k

set-zero : (xs : List ℕ) (c : ℕ) → get_or (set xs c 0) c 0 ≡ 0
set-zero [] c = refl
set-zero (x ∷ xs) zero = refl
set-zero (x ∷ xs) (suc c) = set-zero xs c

set_other : (xs : List ℕ) (c k : ℕ) → (c ≡ k → ⊥) → get_or (set xs c 0) k 0 ≡ get_or xs k 0
set_other [] c k h = refl
set_other (x ∷ xs) zero zero h = absurd (h refl)
set_other (x ∷ xs) zero (suc k) h = refl
set_other (x ∷ xs) (suc c) zero h = refl
set_other (x ∷ xs) (suc c) (suc k) h = set_other xs c k (λ e. h (ap suc e))

each-zero : (c : ChannelNumber) (ns : List ℕ) (cs : List ChannelNumber) (counts : List ℕ) → c.0 ≡ 0 → Each counts ns cs
    → Each counts (0 ∷ ns) (c ∷ cs)
each-zero c ns cs counts z r = record { long = ap suc r.long; fits = fits; own = own; none = none }
  where
    fits : (i : ℕ) → 1 ≤ want (0 ∷ ns) i → want (0 ∷ ns) i ≤ get_or counts (on (c ∷ cs) i) 0
    fits zero h = absurd (omega arith)
    fits (suc i) h = r.fits i h

    own : (i j : ℕ) → i < j → 1 ≤ want (0 ∷ ns) i → 1 ≤ want (0 ∷ ns) j → on (c ∷ cs) i ≡ on (c ∷ cs) j → ⊥
    own i zero l p q e = omega arith
    own zero (suc j) l p q e = omega arith
    own (suc i) (suc j) l p q e = r.own i j (le_of_suc-le-suc l) p q e

    none : (i : ℕ) → i < length (0 ∷ ns) → want (0 ∷ ns) i ≡ 0 → on (c ∷ cs) i ≡ 0
    none zero l h = z
    none (suc i) l h = r.none i (le_of_suc-le-suc l) h

each-suc : (n : ℕ) (c : ChannelNumber) (ns : List ℕ) (cs : List ChannelNumber) (counts : List ℕ) → suc n ≤ get_or counts c.0 0
    → Each (set counts c.0 0) ns cs → Each counts (suc n ∷ ns) (c ∷ cs)
each-suc n c ns cs counts f r = record { long = ap suc r.long; fits = fits; own = own; none = none }
  where
    fits : (i : ℕ) → 1 ≤ want (suc n ∷ ns) i → want (suc n ∷ ns) i ≤ get_or counts (on (c ∷ cs) i) 0
    fits zero h = f
    fits (suc i) h = omega (arith, r.fits i h, set-le counts c.0 (on cs i))

    own : (i j : ℕ) → i < j → 1 ≤ want (suc n ∷ ns) i → 1 ≤ want (suc n ∷ ns) j → on (c ∷ cs) i ≡ on (c ∷ cs) j → ⊥
    own i zero l p q e = omega arith
    own zero (suc j) l p q e =
        let z : get_or (set counts c.0 0) (on cs j) 0 ≡ 0 = ap (λ (d : ℕ). get_or (set counts c.0 0) d 0) (sym e) ∙ set-zero counts c.0 in
        omega (arith, r.fits j q)
    own (suc i) (suc j) l p q e = r.own i j (le_of_suc-le-suc l) p q e

    none : (i : ℕ) → i < length (suc n ∷ ns) → want (suc n ∷ ns) i ≡ 0 → on (c ∷ cs) i ≡ 0
    none zero l h = absurd (omega arith)
    none (suc i) l h = r.none i (le_of_suc-le-suc l) h

choice-each : (ns : List ℕ) (cs : List ChannelNumber) (counts : List ℕ) → Choice counts ns cs → Each counts ns cs
choice-each [] [] counts q = record {
  long = refl;
  fits = λ i h. absurd (omega arith);
  own = λ i j l p q e. omega arith;
  none = λ i l h. absurd (omega arith);
}
choice-each [] (c ∷ cs) counts q = absurd q
choice-each (n ∷ ns) [] counts q = absurd q
choice-each (zero ∷ ns) (c ∷ cs) counts q = each-zero c ns cs counts q.0 (choice-each ns cs counts q.1)
choice-each (suc n ∷ ns) (c ∷ cs) counts q = each-suc n c ns cs counts q.0 (choice-each ns cs (set counts c.0 0) q.1)

each-choice : (ns : List ℕ) (cs : List ChannelNumber) (counts : List ℕ) → Each counts ns cs → Choice counts ns cs
each-choice [] [] counts q = tt
each-choice [] (c ∷ cs) counts q = absurd (omega (arith, q.long))
each-choice (n ∷ ns) [] counts q = absurd (omega (arith, q.long))
each-choice (zero ∷ ns) (c ∷ cs) counts q = (
  q.none 0 (omega arith) refl,
  each-choice ns cs counts (record {
    long = omega (arith, q.long);
    fits = λ i h. q.fits (suc i) h;
    own = λ i j l. q.own (suc i) (suc j) (suc-le-suc l);
    none = λ i l. q.none (suc i) (suc-le-suc l);
  }),
)
each-choice (suc n ∷ ns) (c ∷ cs) counts q = (
  q.fits 0 (omega arith),
  each-choice ns cs (set counts c.0 0) (record {
    long = omega (arith, q.long);
    fits = λ i h. rw (set_other counts c.0 (on cs i) (λ e. q.own 0 (suc i) (omega arith) (omega arith) h e)) (q.fits (suc i) h);
    own = λ i j l. q.own (suc i) (suc j) (suc-le-suc l);
    none = λ i l. q.none (suc i) (suc-le-suc l);
  }),
)

-- ---- logical channels 1 to 15 are the list without its first
module _ (counts : List ℕ) (n : ℕ) (ns : List ℕ) (c : ChannelNumber) (cs : List ChannelNumber) (long : length ns ≡ 15) where
  placed-each : Placed (by_channel counts) (by_logical (n ∷ ns)) (c ∷ cs) → Each counts ns cs
  placed-each p = record {
    long = omega (arith, p.long);
    fits = λ i h. p.fits (suc i) (omega arith) (within i h) h;
    own = λ i j l h k. p.own (suc i) (suc j) (omega arith) (suc-le-suc l) (within j k) h k;
    none = λ i l h. p.none (suc i) (omega arith) (omega arith) h;
  }
    where
      within : (i : ℕ) → 1 ≤ want ns i → suc i < 16
      within i h = omega (arith, channel-below ns i 1 (omega arith) h)

  each_placed : total (n ∷ ns) ≤ total counts → c.0 ≡ 0 → Each counts ns cs → Placed (by_channel counts) (by_logical (n ∷ ns)) (c ∷ cs)
  each_placed t z e = record { long = omega (arith, e.long); fits = fits; own = own; rest = t; none-0 = z; none = none }
    where
      fits : (l : ℕ) → 1 ≤ l → l < 16 → 1 ≤ want (n ∷ ns) l → want (n ∷ ns) l ≤ get_or counts (on (c ∷ cs) l) 0
      fits zero h k p = absurd (omega arith)
      fits (suc l) h k p = e.fits l p

      own : (l m : ℕ) → 1 ≤ l → l < m → m < 16 → 1 ≤ want (n ∷ ns) l → 1 ≤ want (n ∷ ns) m → on (c ∷ cs) l ≡ on (c ∷ cs) m → ⊥
      own zero m h k q p r s = omega arith
      own (suc l) zero h k q p r s = omega arith
      own (suc l) (suc m) h k q p r s = e.own l m (le_of_suc-le-suc k) p r s

      none : (l : ℕ) → 1 ≤ l → l < 16 → want (n ∷ ns) l ≡ 0 → on (c ∷ cs) l ≡ 0
      none zero h k w = absurd (omega arith)
      none (suc l) h k w = e.none l (omega arith) w

  -- what a list of channels says of the tests
  placed-hall : Placed (by_channel counts) (by_logical (n ∷ ns)) (c ∷ cs) → hall_b counts ns ≡ true
  placed-hall p = hall-complete counts ns (choice-hall ns cs counts (each-choice ns cs counts (placed-each p)))

-- ---- the greedy choice meets the promise
module _ (counts : List ℕ) (n : ℕ) (ns : List ℕ) (wide : length counts ≡ 16) (long : length ns ≡ 15) where
  no-list : ((c : ChannelNumber) (cs : List ChannelNumber) → Placed (by_channel counts) (by_logical (n ∷ ns)) (c ∷ cs) → ⊥)
      → NoList (by_channel counts) (by_logical (n ∷ ns)) (replicate 16 (channel 0))
  no-list h = record { never = never'; blank = refl }
    where
      never' : (others : List ChannelNumber) → Placed (by_channel counts) (by_logical (n ∷ ns)) others → ⊥
      never' [] p = omega (arith, p.long)
      never' (c ∷ cs) p = h c cs p

  least-list : leb (total (n ∷ ns)) (total counts) ≡ true → hall_b counts ns ≡ true
      → Least (by_channel counts) (by_logical (n ∷ ns)) (channel 0 ∷ picks counts ns)
  least-list t u = record {
    placed = each_placed counts n ns (channel 0) (picks counts ns) long (leb-true (total (n ∷ ns)) (total counts) t) refl
        (choice-each ns (picks counts ns) counts (picks-choice ns counts (omega arith) (hall-sound counts ns u)));
    least = least;
  }
    where
      least : (others : List ChannelNumber) → Placed (by_channel counts) (by_logical (n ∷ ns)) others → LexLe (channel 0 ∷ picks counts ns) others
      least [] p = absurd (omega (arith, p.long))
      least (d ∷ ds) p =
          inr (
            sym p.none-0,
            picks-least ns counts (omega arith) (hall-sound counts ns u) ds (each-choice ns ds counts (placed-each counts n ns d ds long p)),
          )

  pub chosen-cons : LeastList (by_channel counts) (by_logical (n ∷ ns)) (choose_of (by_channel counts) (by_logical (n ∷ ns)))
  unfolding choose_of
  chosen-cons =
      by_bool (leb (total (n ∷ ns)) (total counts))
      (λ t. by_bool (hall_b counts ns)
      (λ u. rw (t, u) (least-list t u))
      (λ u. rw (t, u) (no-list (λ c cs p. never (placed-hall counts n ns c cs long p) u))))
      (λ t. rw t (no-list (λ c cs p. omega (arith, p.rest, leb-false (total (n ∷ ns)) (total counts) t))))

chosen-list : (counts wants : List ℕ) → length counts ≡ 16 → length wants ≡ 16
    → LeastList (by_channel counts) (by_logical wants) (choose_of (by_channel counts) (by_logical wants))
chosen-list counts [] w l = absurd (omega arith)
chosen-list counts (n ∷ ns) w l = chosen-cons counts n ns w (omega arith)

pub chosen : (counts : ByChannel) (wants : ByLogical) → length counts.0 ≡ 16 → length wants.0 ≡ 16
    → LeastList counts wants (choose_of counts wants)
chosen counts wants w l = chosen-list counts.0 wants.0 w l

-- ---- the promise leaves one answer
pub lex-both : (xs ys : List ChannelNumber) → LexLe xs ys → LexLe ys xs → xs ≡ ys
lex-both [] [] p q = refl
lex-both [] (y ∷ ys) p q = absurd q
lex-both (x ∷ xs) [] p q = absurd p
lex-both (x ∷ xs) (y ∷ ys) p q =
    ⊎_elim (λ l. ⊎_elim (λ m. absurd (omega arith)) (λ m. absurd (omega arith)) q)
    (λ e. ⊎_elim (λ m. absurd (omega arith)) (λ m. let h : x ≡ y = λ i. record { 0 = e.0 i } in cc (h, lex-both xs ys e.1 m.1)) q)
    p

one_of : (counts : ByChannel) (wants : ByLogical) (a b : Bool) (p q : List ChannelNumber) → LeastList counts wants (record { ok = a; on = p })
    → LeastList counts wants (record { ok = b; on = q })
    → ◌≡◌ {A = Picks} (record { ok = a; on = p }) (record { ok = b; on = q })
one_of counts wants true true p q h k = let e = lex-both p q (h.least q k.placed) (k.least p h.placed) in λ i. record { ok = true; on = e i }
one_of counts wants true false p q h k = absurd (k.never p h.placed)
one_of counts wants false true p q h k = absurd (h.never q k.placed)
one_of counts wants false false p q h k = let e = h.blank ∙ sym k.blank in λ i. record { ok = false; on = e i }

pub answers_one : (counts : ByChannel) (wants : ByLogical) (r s : Picks) → LeastList counts wants r → LeastList counts wants s → r ≡ s
answers_one counts wants r s = one_of counts wants r.ok s.ok r.on s.on

-- so an answer is what the definition computes
pub computed : (counts : ByChannel) (wants : ByLogical) (r : Picks) → length counts.0 ≡ 16 → length wants.0 ≡ 16
    → LeastList counts wants r → r ≡ choose_of counts wants
computed counts wants r w l a = answers_one counts wants r (choose_of counts wants) a (chosen counts wants w l)

-- ---- an answer by what it says of itself
pub found-least : (counts : ByChannel) (wants : ByLogical) (r : Picks) → r.ok ≡ true → LeastList counts wants r → Least counts wants r.on
found-least counts wants r e a = subst (λ (b : Bool). Answer b counts wants r.on) e a

pub found_none : (counts : ByChannel) (wants : ByLogical) (r : Picks) → r.ok ≡ false → LeastList counts wants r → NoList counts wants r.on
found_none counts wants r e a = subst (λ (b : Bool). Answer b counts wants r.on) e a
