-- `cell::with_change` meets its contract. Assumes nothing.
use Rattle.cell.proofs.with_change.Goals as goal

pub returns : goal.returns
returns c = rw c.answer_of.ensures
