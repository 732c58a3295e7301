-- `cell_selection::choose` meets its contract: by what is picked among the candidates. Assumes nothing.
use mathlib.Core.Path.{subst}
use Rattle.schedule_list.specs.InSchedule.{in_schedule}
use Rattle.cell_taken.specs.Taken.{LowestFree}
use Rattle.cell_selection.proofs.Walk.{refused_full, refused_none, refused-lacks, selected}
use Rattle.cell_selection.proofs.choose.Goals as goal

pub returns-in_default : goal.returns-in_default
returns-in_default c =
    refused_full (in_schedule c.args.schedule) c.args.lists c.unselected.result
    (subst (LowestFree c.args.lists.jobs) c.in_default.is c.lowest_free.ensures) c.unselected.ensures

pub returns-then-picked : goal.returns-then-picked
returns-then-picked c =
    selected (in_schedule c.args.schedule) c.args.lists c.picked_in-picked.result c.in-Some.place c.entry_at-entry.result c.picked_in-picked.ensures
    (subst (LowestFree c.args.lists.jobs) c.in-Some.is c.lowest_free.ensures) c.entry_at-entry.ensures c.if-picked.true

pub returns-in-None : goal.returns-in-None
returns-in-None c =
    refused_none (in_schedule c.args.schedule) c.args.lists c.picked_in-picked.result c.in-Some.place c.entry_at-entry.result c.picked_in-picked.ensures
    (subst (LowestFree c.args.lists.jobs) c.in-Some.is c.lowest_free.ensures) c.entry_at-entry.ensures c.if-picked.false
    c.in-None.is c.unselected-in-None.result c.unselected-in-None.ensures

pub returns-in-Some-lacking : goal.returns-in-Some-lacking
returns-in-Some-lacking c =
    refused-lacks (in_schedule c.args.schedule) c.args.lists c.picked_in-picked.result c.in-Some.place c.entry_at-entry.result c.picked_in-picked.ensures
    (subst (LowestFree c.args.lists.jobs) c.in-Some.is c.lowest_free.ensures) c.entry_at-entry.ensures c.if-picked.false c.in-Some-lacking.part
    c.in-Some-lacking.is c.unselected-in-Some-lacking.result c.unselected-in-Some-lacking.ensures
