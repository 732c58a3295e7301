-- `cards_writing::put::put_mark` meets its contract: nothing is put for a blank. Assumes nothing.
use borrow.Author.Tests.{eq-eqb, ne_eqb}
use Rattle.text.proofs.RoomLaws.{puts-none}
use Rattle.cards_writing.proofs.put.put_mark.Goals as goal

pub returns-then-mark-ne32 : goal.returns-then-mark-ne32
returns-then-mark-ne32 c = rw (ne_eqb c.args.mark 32 c.if-mark-ne32.true) c.put_byte.ensures

pub returns-else-mark-ne32 : goal.returns-else-mark-ne32
returns-else-mark-ne32 c = rw (eq-eqb c.args.mark 32 c.if-mark-ne32.false) (puts-none c.args.room.now)
