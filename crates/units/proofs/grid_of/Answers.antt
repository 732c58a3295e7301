-- `units::grid_of` meets its contract: the field as it stands, and its walls as owning a state tells. Assumes nothing.
use mathlib.Core.Path.{refl}
use Rattle.units.proofs.Walls.{square-of}
use Rattle.units.proofs.grid_of.Goals as goal

pub returns : goal.returns
returns c = record { is = refl; square = square-of c.args.units _ c.well_formed.0 }
