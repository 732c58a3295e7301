-- `cell::answer_of` meets its contract. Assumes nothing.
use Rattle.cell.proofs.answer_of.Goals as goal

pub returns-in-Err : goal.returns-in-Err
returns-in-Err c = rw c.in-Err.is
