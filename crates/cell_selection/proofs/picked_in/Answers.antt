-- `cell_selection::picked_in` meets its contract. Assumes nothing.
use mathlib.Core.Path.{sym}
use Rattle.cell_selection.proofs.picked_in.Goals as goal

pub returns : goal.returns
returns c = rw (sym c.occupied.ensures, sym c.areas.ensures) c.first_fit.ensures
