-- The walls of the field `of` of Units, an array of arrays of units: there are 16 channels, each of 16 units, as owning
-- a state tells. Assumes nothing.
use mathlib.Core.Path.{◌≡◌}
use Prim.Native.Nat.{ℕ, zero, suc, ◌<◌}
use native.Mathlib.Omega.{arith}
use mathlib.Core.List.{List, [], ◌∷◌}
use lib.ListN.{length, get_or}
use mir.Val.{Val}
use denote.RattleType.{RattleType}
use denote.Shadow.{shadow}
use denote.Laws.{Is}
use denote.Array.{Array, each}
use denote.Struct.Laws as LL
use Rattle.units.specs.declared.Unit as U
use Rattle.units.specs.State.{Square}
use Rattle.units.specs.contracts.Unit as UT
use Rattle.units.specs.declared.Units as S
use Rattle.units.specs.contracts.Units as T
use Rattle.units.proofs.Units.TheLaws as T'

abbrev pub Row : RattleType
Row = Array UT.the_row 16

abbrev pub Grid : RattleType
Grid = Array Row 16

-- every row of a grid has 16 units, and there are 16
rows : (us : List (List U.Unit)) (vs : List Val) → shadow (each Row.Denot Row.own_val us vs) → (c : ℕ) → c < length us → length (get_or us c []) ≡ 16
rows [] vs s c h = absurd (omega arith)
rows (r ∷ us) [] s c h = absurd s
rows (r ∷ us) (v ∷ vs) s zero h = s.0.1.0.1
rows (r ∷ us) (v ∷ vs) s (suc c) h = rows us vs s.1 c (omega arith)

pub square : (us : List (List U.Unit)) (vs : List Val) → Is Grid us vs → Square us
square us vs p = record { channels = p.1.0.1; units = λ c h. rows us p.0 p.1.1 c (omega (arith, p.1.0.1)) }

-- the channels of a state that is owned: 16, each of 16 units
pub square-of : (u : S.Units) (vs : List Val) → Is T.the_row u vs → Square u.of
square-of u vs g = square u.of _ (LL.owed T.the_type T'.the_laws u vs g).0
