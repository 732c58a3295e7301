-- What a mark call means for every unit of the cell: the one that is named is marked, and no other changes. Assumes
-- nothing.
use Prim.Native.Nat.{ℕ, ◌<◌}
use mathlib.Core.Path.{◌≡◌}
use mathlib.Core.Bool.{Bool, cond, ◌&&◌}
use lib.Dec.{eqb}
use Rattle.units.specs.State.{Square, unit_in, marked_unit}
use Rattle.units.proofs.StateLaws.{set-read}
use Rattle.units.specs.declared.Mark.{Mark as UnitMark}
use Rattle.packets.specs.Rules.{marked}
use Rattle.packets.specs.State.{State}

pub marked-alone : (s : State) → Square s.units → (c u : ℕ) → c < 16 → u < 16 → (m : UnitMark) (on : Bool) (d v : ℕ)
    → unit_in (marked s c u m on).units d v ≡ cond (eqb d c && eqb v u) (marked_unit m on (unit_in s.units c u)) (unit_in s.units d v)
marked-alone s square c u small little m on d v = set-read s.units square c u (marked_unit m on (unit_in s.units c u)) small little d v
