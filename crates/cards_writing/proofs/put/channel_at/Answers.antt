-- `cards_writing::put::channel_at` meets its contract, test by test. Assumes nothing.
use borrow.Author.Tests.{lt-ltb, le-ltb}
use Rattle.cards_writing.proofs.put.channel_at.Goals as goal

pub returns-then-k-lt3 : goal.returns-then-k-lt3
returns-then-k-lt3 c = rw (lt-ltb c.args.k 3 c.if-k-lt3.true)

pub returns : goal.returns
returns c = rw (le-ltb c.args.k 3 c.if-k-lt3.false)
