-- `cards_writing::put::put_priority` meets its contract, with and without a sequence. Assumes nothing.
use borrow.Author.Tests.{eq-eqb, ne_eqb}
use Rattle.text.proofs.RoomLaws.{puts-then}
use Rattle.cards_writing.specs.Writing.{priority_text}
use Rattle.cards_writing.proofs.put.put_priority.Goals.{then-sequence-ne0, else-sequence-ne0}
use Rattle.cards_writing.proofs.put.put_priority.Goals as goal

pub returns : goal.returns
unfolding priority_text
returns c = elim c.if-sequence-ne0.branch [
  | then-sequence-ne0 w ↦
      rw (ne_eqb c.args.r.sequence 0 w.if-sequence-ne0.true)
      (puts-then w.put_two.ensures (puts-then (rw w.room-is at c.put_byte.ensures) c.put_two-2.ensures))
  | else-sequence-ne0 w ↦
      rw (eq-eqb c.args.r.sequence 0 w.if-sequence-ne0.false) (puts-then (rw w.room-is at c.put_byte.ensures) c.put_two-2.ensures)
]
