-- `shift_selected::put_entry` meets its contract: a space, the code, the logical channel unless that is 0, the units.
-- Assumes nothing.
use borrow.Author.Tests.{eq-eqb, ne_eqb}
use Rattle.text.proofs.RoomLaws.{puts-then}
use Rattle.shift_selected.specs.Selected.{entry_text}
use Rattle.shift_selected.proofs.put_entry.Goals.{then-logical-ne0, else-logical-ne0}
use Rattle.shift_selected.proofs.put_entry.Goals as goal

pub returns : goal.returns
unfolding entry_text
returns c = elim c.if-logical-ne0.branch [
  | then-logical-ne0 w ↦
      rw (ne_eqb _ _ w.if-logical-ne0.true) (puts-then c.put_byte.ensures (puts-then (rw c.code_of-code.ensures at c.put_bytes.ensures)
      (puts-then w.put_decimal.ensures (rw w.out-is at c.put_units.ensures))))
  | else-logical-ne0 w ↦
      rw (eq-eqb _ _ w.if-logical-ne0.false) (puts-then c.put_byte.ensures (puts-then (rw c.code_of-code.ensures at c.put_bytes.ensures)
      (rw w.out-is at c.put_units.ensures)))
]
