-- `cell::fresh` meets its contract. Assumes nothing.
use Rattle.cell.specs.Calls.{fresh_cell}
use Rattle.cell.proofs.fresh.Goals as goal

pub returns : goal.returns
unfolding fresh_cell
returns c = rw (c.empty.ensures, c.fresh.ensures, c.fresh-units.ensures)
