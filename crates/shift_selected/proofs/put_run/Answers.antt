-- `shift_selected::put_run` meets its contract: nothing, or code and span. Assumes nothing.
use borrow.Author.Tests.{eq-eqb, ne_eqb}
use Rattle.text.proofs.RoomLaws.{puts-none, puts-then}
use Rattle.shift_selected.proofs.put_run.Goals as goal

pub returns-then-count-ne0 : goal.returns-then-count-ne0
returns-then-count-ne0 c = rw (ne_eqb _ _ c.if-count-ne0.true) (puts-then c.put_bytes.ensures c.put_span.ensures)

pub returns-else-count-ne0 : goal.returns-else-count-ne0
returns-else-count-ne0 c = rw (eq-eqb _ _ c.if-count-ne0.false) (puts-none c.args.out.now)
