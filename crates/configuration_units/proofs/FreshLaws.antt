-- What the fresh cell's units are, one by one, and that none of them is held. Assumes nothing.
use Prim.Native.Nat.{ℕ, ◌+◌, ◌*◌, ◌<◌}
use mathlib.Core.Path.{◌≡◌, refl, ap, ◌∙◌}
use mathlib.Core.Bool.{Bool, false}
use mathlib.Core.List.{List, []}
use lib.ListN.{length, get_or}
use Rattle.numbers.specs.Values.{values}
use Rattle.numbers.proofs.ValuesLaws.{values-long, values-at}
use Rattle.units.specs.declared.Holder.TheVariants.{Free}
use Rattle.units.specs.declared.Unit.{Unit}
use Rattle.units.specs.State.{Square, fresh_unit, unit_in}
use Rattle.units.proofs.StateLaws.{free_all}
use Rattle.configuration_units.specs.Fresh.{fresh_units}

module _ (down : List Bool) where
  abbrev row : ℕ → List Unit
  row c = values 16 (λ u. fresh_unit (get_or down (c * 16 + u) false))

  -- 16 channels of 16 units
  pub fresh-square : Square (fresh_units down)
  unfolding fresh_units
  fresh-square =
      record {
        channels = values-long 16 row;
        units = λ c h. ap length (values-at 16 row c [] h) ∙ values-long 16 (λ u. fresh_unit (get_or down (c * 16 + u) false));
      }

  -- unit u of channel c is free, down exactly where it is listed so, and not marked else
  pub fresh_at : (c u : ℕ) → c < 16 → u < 16 → unit_in (fresh_units down) c u ≡ fresh_unit (get_or down (c * 16 + u) false)
  unfolding fresh_units unit_in
  fresh_at c u h k =
      ap (λ (units : List Unit). get_or units u (fresh_unit false)) (values-at 16 row c [] h)
      ∙ values-at 16 (λ u. fresh_unit (get_or down (c * 16 + u) false)) u (fresh_unit false) k

  -- no unit of a fresh cell is held
  pub fresh-free : (c u : ℕ) → (unit_in (fresh_units down) c u).holder ≡ Free
  fresh-free c u = free_all (fresh_units down) fresh-square c u (λ d v h k. rw (fresh_at d v h k) refl)
