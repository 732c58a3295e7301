-- `cards_writing::put::put_pty` meets its contract: the first field, and what follows it. Assumes nothing.
use Rattle.text.proofs.RoomLaws.{puts-then}
use Rattle.cards_writing.proofs.PutLaws.{pty-first}
use Rattle.cards_writing.proofs.put.put_pty.Goals as goal

pub returns : goal.returns
returns c =
    rw (pty-first c.args.n c.args.r) (puts-then c.put_field.ensures c.put_fields.ensures)
