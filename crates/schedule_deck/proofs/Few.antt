-- How many groups a deck has: 3,261 at most, since each but the first is opened by a card of four bytes at least and
-- its LF, and 81 bytes are the termination card's. Assumes nothing.
use Prim.Native.Nat.{ℕ, suc, ◌+◌, ◌-◌, ◌*◌, ◌≤◌}
use mathlib.Core.Path.{◌≡◌, ap}
use mathlib.Core.Bool.{Bool, true, false, cond}
use mathlib.Core.List.{List, [], ◌∷◌}
use native.Mathlib.Omega.{arith}
use lib.Dec.{eqb}
use lib.ListN.{length, get_or}
use Rattle.numbers.proofs.Tests.{by_bool}
use Rattle.numbers.specs.Quoted.{bytes}
use Rattle.cards_fields.specs.Fields.{up_to_period, spaceless, onto, split, fields, field, is_pty}
use Rattle.cards_fields.specs.Deck.{cards_of, before, size, onto_group, groups_of, deck_end, deck_groups}
use Rattle.cards_fields.proofs.Groups.{ends}
use Rattle.cards_fields.proofs.FieldLaws.{spaceless-short}
use Rattle.std.specs.Prelude.{Ok}
use Rattle.words.proofs.WordLaws.{same-equal}

-- A CARD THAT OPENS A GROUP has a comma and three letters at least
first_field : (t : List ℕ) → length (get_or (split t) 0 []) ≤ length t
first_field [] = omega arith
first_field (b ∷ t) = by (eqb b 44) (split t) (first_field t)
  where
    by : (x : Bool) (fs : List (List ℕ)) → length (get_or fs 0 []) ≤ length t → length (get_or (cond x ([] ∷ fs) (onto b fs)) 0 []) ≤ suc (length t)
    by true fs h = omega arith
    by false [] h = omega arith
    by false (f ∷ fs) h = omega arith

second-field : (t : List ℕ) → length (get_or (split t) 1 []) ≤ length t - 1
second-field [] = omega arith
second-field (b ∷ t) = by (eqb b 44) (split t) (first_field t) (second-field t)
  where
    by : (x : Bool) (fs : List (List ℕ)) → length (get_or fs 0 []) ≤ length t → length (get_or fs 1 []) ≤ length t - 1
        → length (get_or (cond x ([] ∷ fs) (onto b fs)) 1 []) ≤ suc (length t) - 1
    by true fs g h = omega arith
    by false [] g h = omega arith
    by false (f ∷ fs) g h = omega arith

period-short : (s : List ℕ) → length (up_to_period s) ≤ length s
period-short [] = omega arith
period-short (b ∷ s) = by (eqb b 46) (period-short s)
  where
    by : (x : Bool) → length (up_to_period s) ≤ length s → length (cond x [] (b ∷ up_to_period s)) ≤ suc (length s)
    by true h = omega arith
    by false h = omega arith

pty-long : (c : List ℕ) → is_pty c ≡ true → 4 ≤ length c
unfolding fields
pty-long c e =
    let l : length (field c 1) ≡ 3 = ap length (same-equal (field c 1) (bytes "PTY") e) in
    omega (arith, second-field (spaceless (up_to_period c)), spaceless-short (up_to_period c), period-short c)

-- FEW GROUPS: five bytes for each, but for the first where no PTY card opens it
alone : (c : List ℕ) → 5 ≤ length c + 1 + cond (is_pty c) 0 5
alone c = by_bool (is_pty c) (λ t. rw t (omega (arith, pty-long c t))) (λ t. rw t (omega arith))

few : (c : List ℕ) (cs : List (List ℕ)) → 5 * length (groups_of (c ∷ cs)) ≤ size (c ∷ cs) + cond (is_pty c) 0 5
few c [] = omega (arith, alone c)
few c (e ∷ cs) = by (is_pty e) (groups_of (e ∷ cs)) (few e cs)
  where
    by : (b : Bool) (gs : List (List (List ℕ))) → 5 * length gs ≤ size (e ∷ cs) + cond b 0 5
        → 5 * length (onto_group c b gs) ≤ length c + 1 + size (e ∷ cs) + cond (is_pty c) 0 5
    by true gs h = omega (arith, alone c)
    by false [] h = omega (arith, alone c)
    by false (g ∷ gs) h = omega (arith, alone c)

groups-few : (cs : List (List ℕ)) → 5 * length (groups_of cs) ≤ size cs + 5
groups-few [] = omega arith
groups-few (c ∷ cs) = omega (arith, few c cs, five (is_pty c))
  where
    five : (b : Bool) → cond b 0 5 ≤ 5
    five true = omega arith
    five false = omega arith

-- HOW MANY GROUPS A DECK HAS that is read
pub deck-few : (s : List ℕ) (n : ℕ) → deck_end s ≡ Ok n → length (deck_groups s) ≤ 3261
deck-few s n e = let z = ends s n e in omega (arith, groups-few (before (cards_of s)))
