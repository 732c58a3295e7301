-- `shift_reply::board` meets its contract. Assumes nothing.
use borrow.Author.Rules.{rules}
use Rattle.shift_reply.proofs.ReplyLaws.{back, shown}
use Rattle.shift_reply.proofs.board.Goals as goal

pub returns : goal.returns
returns c = shown c.unchanged.ensures (back c.put.ensures.same (search rules) c.put.ensures.boarded.text)
