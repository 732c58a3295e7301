-- `cell_taken::occupied` meets its contract. Assumes nothing.
use mathlib.Core.Path.{sym}
use Rattle.cell_taken.proofs.occupied.Goals as goal

pub returns : goal.returns
returns c = rw (sym c.cores.ensures) c.word_of.ensures
