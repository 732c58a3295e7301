-- `cell_selection::none_picked` meets its contract. Assumes nothing.
use Rattle.cell_selection.proofs.none_picked.Goals as goal

pub returns : goal.returns
returns c = rw c.nothing.ensures
