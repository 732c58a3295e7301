-- `schedule::closing` meets its contract: the change at the index of the job's request. Assumes nothing.
use mathlib.Core.Path.{◌∙◌}
use Rattle.schedule_list.specs.InSchedule.{in_schedule}
use Rattle.schedule_list.proofs.IndexLaws.{found-at, found-none}
use Rattle.schedule.specs.Calls.{is_in}
use Rattle.schedule.proofs.Cases.{closing-by, closing-none}
use Rattle.schedule.proofs.closing.Goals as goal

pub returns-in-Some : goal.returns-in-Some
returns-in-Some c =
    c.changed_at.ensures ∙ closing-by c.args.schedule c.args.place (found-at (is_in c.args.place) (in_schedule c.args.schedule) c.in-Some.ensures)

pub returns-in-None : goal.returns-in-None
returns-in-None c = closing-none c.args.schedule c.args.place (found-none (is_in c.args.place) (in_schedule c.args.schedule) c.in-None.ensures)
