-- `desk_show::part_of` meets its contract: the span lies in the deck that it is of. Assumes nothing.
use mathlib.Core.Path.{◌≡◌}
use borrow.Author.Rules.{rules}
use Rattle.desk_show.specs.declared.Which.TheVariants.{Repair, Day}
use Rattle.desk_show.proofs.PartLaws.{in-repair, in-day}
use Rattle.desk_show.proofs.part_of.Goals as goal

pub slice_bounds-result-count : goal.slice_bounds-result-count
slice_bounds-result-count c =
    let w : c.span_of-span.result.which ≡ Repair = search rules in
    (in-repair c.args.repair.now c.args.day.now c.args.found c.span_of-span.ensures w).0

pub returns-then-eq : goal.returns-then-eq
returns-then-eq c =
    let w : c.span_of-span.result.which ≡ Repair = search rules in
    (in-repair c.args.repair.now c.args.day.now c.args.found c.span_of-span.ensures w).2

pub slice_bounds-result-count-2 : goal.slice_bounds-result-count-2
slice_bounds-result-count-2 c =
    let w : c.span_of-span.result.which ≡ Day = search rules in
    (in-day c.args.repair.now c.args.day.now c.args.found c.span_of-span.ensures w).0

pub returns : goal.returns
returns c =
    let w : c.span_of-span.result.which ≡ Day = search rules in
    (in-day c.args.repair.now c.args.day.now c.args.found c.span_of-span.ensures w).2
