-- `board_jobs::digit` meets its contract. Assumes nothing.
use borrow.Author.Tests.{lt-ltb, le-ltb}
use Rattle.board_jobs.proofs.digit.Goals as goal

pub returns-then-place-lt10 : goal.returns-then-place-lt10
returns-then-place-lt10 c = rw (lt-ltb _ _ c.if-place-lt10.true)

pub returns : goal.returns
returns c = rw (le-ltb _ _ c.if-place-lt10.false)
