-- `cards_table::row_count` meets its contract. The loop's invariant: the most rows so far, and those of the cards from
-- i on, are the table's. Assumes nothing.
use Rattle.cards_further.proofs.Fourteen.{fourteen, past, within-cards, the-texts}
use Rattle.cards_table.proofs.TableLaws.{rows-step, rows_end}
use mathlib.Core.Path.{ap, ◌∙◌}
use native.Mathlib.Omega.{arith}
use lib.ListN.{take}
use Rattle.cards_request.specs.Requests.{texts_in}
use Rattle.cards_table.specs.Table.{rows}
use Rattle.cards_table.proofs.row_count.Goals as goal

pub offset_bounds-cards-i : goal.offset_bounds-cards-i
offset_bounds-cards-i c =
    let l = fourteen c.args.further _ c.well_formed.0 in
    omega (arith, l, within-cards c.args.further c.count_of-n.result c.count_of-n.ensures, c.loop-i-test.true)

pub bounds-cards-i : goal.bounds-cards-i
bounds-cards-i c =
    let l = fourteen c.args.further _ c.well_formed.0 in
    omega (arith, l, within-cards c.args.further c.count_of-n.result c.count_of-n.ensures, c.loop-i-test.true)

pub loop-i-preserved : goal.loop-i-preserved
loop-i-preserved c =
    let e = rows-step c.args.further.cards c.count_of-n.result
    (within-cards c.args.further c.count_of-n.result c.count_of-n.ensures)
    c.loop-i.i past c.loop-i-test.true c.row_of.result c.row_of.ensures in
    omega (arith, e, c.loop-i.invariant)

pub returns : goal.returns
returns c =
    rows_end c.args.further.cards c.count_of-n.result c.loop-i.i c.loop-i.most (rows (texts_in (take c.count_of-n.result c.args.further.cards)))
    (omega arith) c.loop-i.invariant
    ∙ ap rows (the-texts c.args.further c.count_of-n.result c.count_of-n.ensures)
