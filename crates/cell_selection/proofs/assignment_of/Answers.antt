-- `cell_selection::assignment_of` meets its contract. Assumes nothing.
use mathlib.Core.Path.{refl}
use Rattle.cell_selection.proofs.assignment_of.Goals as goal

pub returns : goal.returns
returns c = rw (c.units_of.ensures, c.run_of-ib.ensures, c.run_of-db.ensures) refl
