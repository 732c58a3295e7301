-- `cards_table::put_rows` meets its contract. The loop's invariant is `Goes`: whoever puts the rows from the digit on
-- has put them all. Assumes nothing.
use native.Mathlib.Omega.{arith}
use lib.ListN.{take}
use Rattle.cards_request.specs.Requests.{texts}
use Rattle.cards_table.specs.Table.{letters_in}
use Rattle.cards_table.proofs.TableLaws.{rows-most, table-start, table-turn, table-end}
use Rattle.cards_table.proofs.put_rows.Goals as goal

pub loop-digit-init : goal.loop-digit-init
loop-digit-init c =
    table-start c.args.further c.args.out.now c.row_count-n.result c.row_count-n.ensures

pub card_of-requires : goal.card_of-requires
card_of-requires c =
    omega (arith, c.row_count-n.ensures, rows-most (texts c.args.further))

pub loop-digit-preserved : goal.loop-digit-preserved
loop-digit-preserved c =
    table-turn c.row_count-n.result c.loop-digit.digit (texts c.args.further) (letters_in (take c.card_of.result.len c.card_of.result.text))
    c.loop-digit-test.true c.card_of.ensures c.loop-digit.invariant c.put_row.ensures

pub returns : goal.returns
returns c =
    table-end c.row_count-n.result c.loop-digit.digit (texts c.args.further) (omega arith) c.loop-digit.invariant
