-- `schedule::returned` meets its contract: by the tests that led there. Assumes nothing.
use mathlib.Core.Path.{refl, sym, ap, ◌∙◌}
use Rattle.schedule_list.specs.InSchedule.{in_schedule}
use Rattle.schedule_list.proofs.IndexLaws.{found-at, found-in, found-none}
use Rattle.schedule.specs.Calls.{is_in}
use Rattle.schedule.proofs.Cases.{returned-by, returned-none, return-normal, return-suspends, return-removes, stands}
use Rattle.schedule.proofs.returned.Goals.{else-in_error-via-then-in_error+else-requests-k-ge1, else-in_error-via-else-in_error}
use Rattle.schedule.proofs.returned.Goals as goal

pub returns-in_default : goal.returns-in_default
returns-in_default c =
    returned-none c.args.schedule c.args.place
    (found-none (is_in c.args.place) (in_schedule c.args.schedule) (sym c.in_default.is ∙ c.of_place.ensures)) c.args.in_error

pub returns-then-requests-k-ge1 : goal.returns-then-requests-k-ge1
returns-then-requests-k-ge1 c =
    c.changed_at.ensures
    ∙ return-suspends c.args.schedule c.in-Some.k refl (found-in (is_in c.args.place) (in_schedule c.args.schedule) c.in-Some.ensures)
    (stands c.args.schedule c.in-Some.k refl _ c.requests.ensures.same (found-in (is_in c.args.place) (in_schedule c.args.schedule) c.in-Some.ensures))
    c.args.in_error c.if-in_error.true c.if-requests-k-ge1.true
    ∙ returned-by c.args.schedule c.args.place (found-at (is_in c.args.place) (in_schedule c.args.schedule) c.in-Some.ensures) c.args.in_error

pub returns : goal.returns
returns c =
    c.without.ensures
    ∙ elim c.else-in_error.branch [
      | else-in_error-via-then-in_error+else-requests-k-ge1 w ↦ return-removes c.args.schedule c.in-Some.k refl (found-in (is_in c.args.place) (in_schedule c.args.schedule) c.in-Some.ensures)
          (stands c.args.schedule c.in-Some.k refl _ w.requests.ensures.same (found-in (is_in c.args.place) (in_schedule c.args.schedule) c.in-Some.ensures))
          c.args.in_error w.if-in_error.true w.if-requests-k-ge1.false
      | else-in_error-via-else-in_error w ↦ return-normal c.args.schedule c.in-Some.k refl
          (found-in (is_in c.args.place) (in_schedule c.args.schedule) c.in-Some.ensures) refl c.args.in_error w.if-in_error.false
    ]
    ∙ returned-by c.args.schedule c.args.place (found-at (is_in c.args.place) (in_schedule c.args.schedule) c.in-Some.ensures) c.args.in_error
