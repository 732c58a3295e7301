-- The loop that makes the fresh units: those passed are as they should be, the others still free and unmarked.
-- Assumes nothing.
use Prim.Native.Nat.{ℕ, ◌+◌, ◌*◌, ◌/◌, ◌%◌, ◌≤◌, ◌<◌}
use mathlib.Core.Path.{◌≡◌, sym, ap, subst, ◌∙◌}
use mathlib.Core.Bool.{Bool, true, false}
use mathlib.Core.List.{List}
use native.Mathlib.Omega.{arith}
use lib.ListN.{get_or}
use Rattle.units.specs.declared.Unit.{Unit}
use Rattle.units.specs.State.{fresh_unit, none_held, unit_in, unit_set}
use Rattle.units.proofs.EachUnit.{Passed, passed_none, passed-set, passed-left, passed-all}
use Rattle.units.proofs.StateLaws.{none-square, none_read}
use Rattle.configuration_units.specs.Fresh.{fresh_units}
use Rattle.configuration_units.proofs.FreshLaws.{fresh-square, fresh_at}

-- unit u of channel c of the fresh cell, whatever it was
abbrev made : List Bool → ℕ → ℕ → Unit → Unit
made down c u v = fresh_unit (get_or down (c * 16 + u) false)

pub record Filled (down : List Bool) (grid : List (List Unit)) (i : ℕ) : Type 0 where
  pub within : i ≤ 256
  pub passed : Passed (made down) none_held grid i

pub fill_start : (down : List Bool) {grid : List (List Unit)} → grid ≡ none_held → Filled down grid 0
fill_start down e =
    subst (λ (g : List (List Unit)). Filled down g 0) (sym e) (record { within = omega arith; passed = passed_none (made down) none_held none-square })

module _ {down : List Bool} {grid : List (List Unit)} {i : ℕ} (f : Filled down grid i) (h : i < 256) where
  -- unit i's place among the channels
  place : fresh_unit (get_or down i false) ≡ made down (i / 16) (i % 16) (unit_in none_held (i / 16) (i % 16))
  place = ap (λ (k : ℕ). fresh_unit (get_or down k false)) (let z : i ≡ i / 16 * 16 + i % 16 = omega arith in z)

  -- a down unit is stored,
  pub fill-down : {unit : Unit} → get_or down i false ≡ true → unit ≡ fresh_unit true → Filled down (unit_set grid (i / 16) (i % 16) unit) (i + 1)
  fill-down {unit} d e =
      record { within = omega arith; passed = passed-set (made down) none_held grid i f.passed h unit (e ∙ ap fresh_unit (sym d) ∙ place) }

  -- and the others are as they should be
  pub fill-up : get_or down i false ≡ false → Filled down grid (i + 1)
  fill-up d =
      record {
        within = omega arith;
        passed = passed-left (made down) none_held grid i f.passed h
            (none_read (i / 16) (i % 16) (omega arith) (omega arith) ∙ ap fresh_unit (sym d) ∙ place);
      }

pub fill_end : {down : List Bool} {grid : List (List Unit)} {i : ℕ} → Filled down grid i → 256 ≤ i → grid ≡ fresh_units down
fill_end {down} {grid} {i} f h = passed-all (made down) none_held grid (fresh_units down) i h f.passed (fresh-square down) (fresh_at down)
