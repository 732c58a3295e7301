-- `cell_selection::select` meets its contract. Assumes nothing.
use mathlib.Core.Path.{refl, sym, ◌∙◌}
use Rattle.schedule_list.specs.InSchedule.{in_schedule}
use Rattle.cell_selection.proofs.Walk.{starts}
use Rattle.cell_selection.proofs.select.Goals as goal

pub returns-then-not-is_job : goal.returns-then-not-is_job
returns-then-not-is_job c =
    record { selects = c.choose-selection.ensures; leaves = rw (sym c.is_job.ensures ∙ c.if-not-is_job.true) refl }

pub assignment_of-assignment-requires : goal.assignment_of-assignment-requires
assignment_of-assignment-requires c =
    starts (in_schedule c.args.schedule) c.args.lists c.choose-selection.result (sym c.is_job.ensures ∙ c.if-not-is_job.false)
    c.choose-selection.ensures

pub returns : goal.returns
returns c =
    record {
      selects = c.choose-selection.ensures;
      leaves = rw (
        sym c.is_job.ensures ∙ c.if-not-is_job.false,
        c.taken-next.ensures,
        c.take-acted.ensures,
        c.assignment_of-assignment.ensures,
      ) refl;
    }
