-- `cards_table::put_row` meets its contract. The loop's invariant is `Goes`: whoever puts the characters from k on,
-- up to 66, has put the row. Assumes nothing.
use Rattle.cards_further.proofs.Fourteen.{counted-most, take_counted}
use Rattle.cards_table.proofs.TableLaws.{letter-here, letter-none, row-turn, row-end}
use mathlib.Core.Path.{sym, ◌∙◌}
use native.Mathlib.Omega.{arith}
use lib.ListN.{take}
use Rattle.cards_table.specs.Table.{letters_in}
use Rattle.cards_table.proofs.put_row.Goals as goal
use Rattle.cards_table.proofs.put_row.Goals.{then-k-n, else-k-n}

pub loop-k-preserved : goal.loop-k-preserved
loop-k-preserved c =
    row-turn (letters_in (take c.len_of-n.result c.args.card.text)) c.loop-k.k c.loop-k-test.true
    (elim c.if-k-n.branch [
      | then-k-n w ↦ w.b-is ∙ sym (letter-here c.args.card.text c.len_of-n.result
          (counted-most c.args.card.len c.args.card.text c.len_of-n.result c.len_of-n.ensures) c.loop-k.k w.if-k-n.true)
      | else-k-n w ↦ w.b-is ∙ sym (letter-none c.args.card.text c.len_of-n.result
          (counted-most c.args.card.len c.args.card.text c.len_of-n.result c.len_of-n.ensures) c.loop-k.k w.if-k-n.false)
    ])
    c.loop-k.invariant c.put_byte.ensures

pub returns : goal.returns
returns c =
    rw (take_counted c.args.card.len c.args.card.text c.len_of-n.result c.len_of-n.ensures) at
    (row-end (letters_in (take c.len_of-n.result c.args.card.text)) c.loop-k.k (omega arith) c.loop-k.invariant)
