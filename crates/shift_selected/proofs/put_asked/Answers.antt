-- `shift_selected::put_asked` meets its contract: the entry where units are asked for, else nothing. Assumes nothing.
use borrow.Author.Tests.{eq-eqb, ne_eqb}
use Rattle.text.proofs.RoomLaws.{puts-none}
use Rattle.shift_selected.specs.Selected.{asked_text}
use Rattle.shift_selected.proofs.put_asked.Goals as goal

pub returns-then-asked_for-ne0 : goal.returns-then-asked_for-ne0
unfolding asked_text
returns-then-asked_for-ne0 c = rw (← c.asked_for.ensures, ne_eqb _ _ c.if-asked_for-ne0.true) c.put_entry.ensures

pub returns-else-asked_for-ne0 : goal.returns-else-asked_for-ne0
unfolding asked_text
returns-else-asked_for-ne0 c = rw (← c.asked_for.ensures, eq-eqb _ _ c.if-asked_for-ne0.false) (puts-none c.args.out.now)
