-- What taking all units of an assignment and releasing all units of a job leave: 16 channels of 16 units, each
-- taken or released. Assumes nothing.
use Prim.Native.Nat.{ℕ, ◌+◌, ◌<◌}
use mathlib.Core.Path.{◌≡◌, ap, ◌∙◌}
use mathlib.Core.Bool.{Bool, false}
use mathlib.Core.List.{List, [], map}
use native.Mathlib.Omega.{arith}
use native.Mathlib.Nat.{zero-add}
use lib.ListN.{length, get_or, length-map, get_or-map}
use Rattle.units.specs.declared.Unit.{Unit as UnitState}
use Rattle.units.specs.State.{Square, fresh_unit, unit_in}
use Rattle.numbers.specs.Elements.{map_from}
use Rattle.packets.specs.State.{release, release_all, take_all, take_unit}
use Rattle.packets.proofs.Laws.{get_d-map_from-in, length-map_from}

-- ---- all units of a job are free again (unit by unit: `unit-release` of Store)

pub release-square : (units : List (List UnitState)) (j : ℕ) → Square units → Square (release_all units j)
unfolding release_all
release-square units j s =
    record {
      channels = length-map units (map (release j)) ∙ s.channels;
      units = λ c h. ap length (get_or-map (map (release j)) units c []) ∙ length-map (get_or units c []) (release j) ∙ s.units c h;
    }

-- ---- the units of an assignment are held

module _ (units : List (List UnitState)) (j : ℕ) (wants : ℕ → ℕ → Bool) (s : Square units) where
  take_row : (c : ℕ) → c < 16 → get_or (take_all units j wants) c [] ≡ map_from 0 (λ u v. take_unit j (wants (0 + c) u) v) (get_or units c [])
  unfolding take_all
  take_row c h = get_d-map_from-in (λ c row. map_from 0 (λ u v. take_unit j (wants c u) v) row) [] 0 units c (omega (arith, s.channels))

  pub take-square : Square (take_all units j wants)
  take-square =
      record {
        channels = size;
        units = λ c h. ap length (take_row c h) ∙ length-map_from (λ u v. take_unit j (wants (0 + c) u) v) 0 (get_or units c []) ∙ s.units c h;
      }
    where
      size : length (take_all units j wants) ≡ 16
      size = unfold take_all in length-map_from (λ c row. map_from 0 (λ u v. take_unit j (wants c u) v) row) 0 units ∙ s.channels

  pub take-read : (c u : ℕ) → c < 16 → u < 16 → unit_in (take_all units j wants) c u ≡ take_unit j (wants c u) (unit_in units c u)
  unfolding unit_in
  take-read c u h k =
      ap (λ (row : List UnitState). get_or row u (fresh_unit false)) (take_row c h)
      ∙ get_d-map_from-in (λ u v. take_unit j (wants (0 + c) u) v) (fresh_unit false) 0 (get_or units c []) u (omega (arith, s.units c h))
      ∙ rw (zero-add c, zero-add u)
