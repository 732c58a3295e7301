-- A loop over all units that changes each by the one function that changes units, and what it leaves. Assumes nothing.
use Prim.Native.Nat.{ℕ, ◌+◌, ◌*◌, ◌/◌, ◌%◌, ◌≤◌, ◌<◌}
use mathlib.Core.Path.{◌≡◌, sym, ◌∙◌}
use mathlib.Core.Bool.{false, cond, ◌&&◌}
use mathlib.Core.List.{List}
use native.Mathlib.Omega.{arith}
use lib.Dec.{ltb, eqb}
use borrow.Author.Tests.{eqb-true, eq-eqb, lt-ltb, le-ltb, ltb-true, ltb-false}
use Rattle.numbers.proofs.Tests.{both, by_bool, never}
use Rattle.units.specs.declared.Unit.{Unit}
use Rattle.units.specs.State.{Square, unit_in, unit_set}
use Rattle.units.proofs.StateLaws.{same_units, set-read, set-square}

module _ (f : ℕ → ℕ → Unit → Unit) (old : List (List Unit)) where
  -- the first i units are changed, the others as they were
  pub record Passed (new : List (List Unit)) (i : ℕ) : Type 0 where
    pub square : Square new
    pub is : (c u : ℕ) → c < 16 → u < 16 → unit_in new c u ≡ cond (ltb (c * 16 + u) i) (f c u (unit_in old c u)) (unit_in old c u)

  pub passed_none : Square old → Passed old 0
  passed_none s = record { square = s; is = λ c u h k. rw (le-ltb (c * 16 + u) 0 (omega arith)) }

  -- the tests for i and for i + 1 differ at unit i only
  other : (c u i : ℕ) → u < 16 → (eqb c (i / 16) && eqb u (i % 16)) ≡ false → ltb (c * 16 + u) (i + 1) ≡ ltb (c * 16 + u) i
  other c u i k e =
      by_bool (ltb (c * 16 + u) i)
      (λ t. rw t (lt-ltb (c * 16 + u) (i + 1) (let h : c * 16 + u < i = ltb-true (c * 16 + u) i t in omega arith)))
      (λ t. rw t (le-ltb (c * 16 + u) (i + 1) (let h : i ≤ c * 16 + u = ltb-false (c * 16 + u) i t in let n = apart in omega arith)))
    where
      apart : c * 16 + u ≡ i → ⊥
      apart q =
          let x : c ≡ i / 16 = omega arith in
          let y : u ≡ i % 16 = omega arith in
          never {b = eqb c (i / 16) && eqb u (i % 16)} (rw (eq-eqb c (i / 16) x, eq-eqb u (i % 16) y)) e

  module _ (new : List (List Unit)) (i : ℕ) (P : Passed new i) (small : i < 256) where
    row : i / 16 < 16
    row = omega arith

    col : i % 16 < 16
    col = omega arith

    pub passed-set : (v : Unit) → v ≡ f (i / 16) (i % 16) (unit_in old (i / 16) (i % 16)) → Passed (unit_set new (i / 16) (i % 16) v) (i + 1)
    passed-set v e =
        record {
          square = set-square new P.square (i / 16) (i % 16) v row;
          is = λ c u h k. rw (set-read new P.square (i / 16) (i % 16) v row col c u)
              (by_bool (eqb c (i / 16) && eqb u (i % 16))
              (λ t. let b = both (eqb c (i / 16)) (eqb u (i % 16)) t in
              let x : c ≡ i / 16 = eqb-true c (i / 16) b.0 in
              let y : u ≡ i % 16 = eqb-true u (i % 16) b.1 in
              rw (t, lt-ltb (c * 16 + u) (i + 1) (omega arith), x, y) e)
              (λ t. rw (t, other c u i k t) (P.is c u h k)));
        }

    pub passed-left : unit_in old (i / 16) (i % 16) ≡ f (i / 16) (i % 16) (unit_in old (i / 16) (i % 16)) → Passed new (i + 1)
    passed-left e =
        record {
          square = P.square;
          is = λ c u h k. P.is c u h k
              ∙ by_bool (eqb c (i / 16) && eqb u (i % 16))
              (λ t. let b = both (eqb c (i / 16)) (eqb u (i % 16)) t in
              let x : c ≡ i / 16 = eqb-true c (i / 16) b.0 in
              let y : u ≡ i % 16 = eqb-true u (i % 16) b.1 in
              rw (lt-ltb (c * 16 + u) (i + 1) (omega arith), le-ltb (c * 16 + u) i (omega arith), x, y) e)
              (λ t. rw (other c u i k t));
        }

  pub passed-all : (new whole : List (List Unit)) (i : ℕ) → 256 ≤ i → Passed new i → Square whole
      → ((c u : ℕ) → c < 16 → u < 16 → unit_in whole c u ≡ f c u (unit_in old c u)) → new ≡ whole
  passed-all new whole i h P s e =
      same_units new whole P.square s
      (λ c u k l. P.is c u k l ∙ rw (lt-ltb (c * 16 + u) i (omega arith)) (sym (e c u k l)))
