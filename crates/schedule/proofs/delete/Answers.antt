-- `schedule::delete` meets its contract: by the tests that led there. Assumes nothing.
use mathlib.Core.Path.{refl, sym, ap, ◌∙◌}
use Rattle.schedule_entries.specs.Entries.{is_named}
use Rattle.schedule_list.specs.InSchedule.{in_schedule}
use Rattle.schedule_list.proofs.IndexLaws.{found-at, found-in, found-none}
use Rattle.schedule.specs.Calls.{done}
use Rattle.schedule.proofs.Cases.{deleted-by, deleted-none, delete-runs, delete-yes, stands}
use Rattle.schedule.proofs.delete.Goals as goal

pub returns-in_default : goal.returns-in_default
returns-in_default c =
    c.refused.ensures ∙ deleted-none c.args.schedule c.args.id
    (found-none (is_named c.args.id) (in_schedule c.args.schedule) (sym c.in_default.is ∙ c.of_id.ensures))

pub returns-then-is_active : goal.returns-then-is_active
returns-then-is_active c =
    c.refused-then-is_active.ensures
    ∙ delete-runs c.args.schedule c.in-Some.k refl (found-in (is_named c.args.id) (in_schedule c.args.schedule) c.in-Some.ensures)
    (stands c.args.schedule c.in-Some.k refl _ c.requests.ensures.same (found-in (is_named c.args.id) (in_schedule c.args.schedule) c.in-Some.ensures))
    c.is_active.ensures c.if-is_active.true
    ∙ deleted-by c.args.schedule c.args.id (found-at (is_named c.args.id) (in_schedule c.args.schedule) c.in-Some.ensures)

pub returns : goal.returns
returns c =
    c.done.ensures ∙ ap done c.without.ensures
    ∙ delete-yes c.args.schedule c.in-Some.k refl (found-in (is_named c.args.id) (in_schedule c.args.schedule) c.in-Some.ensures)
    (stands c.args.schedule c.in-Some.k refl _ c.requests.ensures.same (found-in (is_named c.args.id) (in_schedule c.args.schedule) c.in-Some.ensures))
    c.is_active.ensures c.if-is_active.false
    ∙ deleted-by c.args.schedule c.args.id (found-at (is_named c.args.id) (in_schedule c.args.schedule) c.in-Some.ensures)
