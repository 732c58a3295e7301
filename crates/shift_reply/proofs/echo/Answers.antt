-- `shift_reply::echo` meets its contract: one piece after the other. Assumes nothing.
use borrow.Author.Rules.{rules}
use Rattle.text.proofs.RoomLaws.{puts-then}
use Rattle.shift_reply.proofs.ReplyLaws.{back, shown}
use Rattle.shift_reply.proofs.echo.Goals as goal

pub returns : goal.returns
returns c =
    let p = puts-then c.put_bytes.ensures c.put_byte.ensures in
    shown c.unchanged.ensures (back p.same (search rules) p.written)
