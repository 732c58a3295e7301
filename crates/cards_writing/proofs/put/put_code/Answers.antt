-- `cards_writing::put::put_code` meets its contract: the code with the index, of the list of codes. Assumes nothing.
use mathlib.Core.Path.{sym}
use Rattle.cards_fac.specs.Fac.{codes}
use Rattle.cards_fac.proofs.EntryLaws.{code-size}
use Rattle.text.proofs.RoomLaws.{puts-none}
use Rattle.cards_writing.proofs.PutLaws.{no_code}
use Rattle.cards_writing.proofs.put.put_code.Goals as goal

pub slice_bounds-put_bytes-end : goal.slice_bounds-put_bytes-end
unfolding codes
slice_bounds-put_bytes-end c = sym (code-size c.args.code c.if-code-le-LAST_CODE.true)

pub returns-then-code-le-LAST_CODE : goal.returns-then-code-le-LAST_CODE
unfolding codes
returns-then-code-le-LAST_CODE c = c.put_bytes.ensures

pub returns-else-code-le-LAST_CODE : goal.returns-else-code-le-LAST_CODE
returns-else-code-le-LAST_CODE c = rw (no_code c.args.code c.if-code-le-LAST_CODE.false) (puts-none c.args.room.now)
