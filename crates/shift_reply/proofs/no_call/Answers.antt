-- `shift_reply::no_call` meets its contract. Assumes nothing.
use borrow.Author.Rules.{rules}
use Rattle.shift_reply.proofs.ReplyLaws.{back, shown}
use Rattle.shift_reply.proofs.no_call.Goals as goal

pub returns : goal.returns
returns c = shown c.unchanged.ensures (back c.put_no_call.ensures.same (search rules) c.put_no_call.ensures.written)
