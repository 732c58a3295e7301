-- `cell::act` meets its contract: the request lists answer, and the schedule follows. Assumes nothing.
use mathlib.Core.Path.{◌∙◌}
use Rattle.cell.specs.Calls.{acted}
use Rattle.cell.proofs.act.Goals as goal

pub returns : goal.returns
unfolding acted
returns c = c.with_schedule.ensures ∙ rw (c.follow.ensures, c.act-acted.ensures)
