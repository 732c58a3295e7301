-- `cell_selection::unselected` meets its contract. Assumes nothing.
use Rattle.cell_selection.proofs.unselected.Goals as goal

pub returns : goal.returns
returns c = rw (c.blank-entry.ensures, c.nothing.ensures)
