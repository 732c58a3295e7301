-- `shift_reply::reply_deck` meets its contract: the deck's lines, and the refusal behind them. Assumes nothing.
use Rattle.shift_reply.proofs.ReplyLaws.{entered}
use borrow.Author.Rules.{rules}
use Rattle.shift_reply.proofs.reply_deck.Goals as goal

pub returns : goal.returns
returns c =
    entered c.args.cell c.args.deck.now c.args.out.now _ _ c.enter-entered.result _ (search rules) c.enter-entered.ensures
    c.put_refusal.ensures.written
