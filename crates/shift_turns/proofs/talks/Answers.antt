-- `shift_turns::talks` meets its contract: what the line says is answered, and a deck follows `DECK`. Assumes nothing.
use Rattle.shift_turns.proofs.TurnLaws.{talked}
use Rattle.shift_turns.proofs.talks.Goals as goal

pub returns : goal.returns
returns c =
    talked c.args.line.now c.read_line-said.ensures c.reply_line-replied.ensures c.after_line.ensures c.turned.ensures
