-- `cell::follow` meets its contract: the schedule follows each answer. Assumes nothing.
use mathlib.Core.Path.{◌∙◌}
use Rattle.cell.proofs.follow.Goals as goal

pub returns-in-Completed : goal.returns-in-Completed
returns-in-Completed c = rw c.in-Completed.is c.left_by.ensures

pub returns-in-Closed : goal.returns-in-Closed
returns-in-Closed c = rw c.in-Closed.is (c.left_by-in-Closed.ensures ∙ rw c.closing-closing.ensures)
