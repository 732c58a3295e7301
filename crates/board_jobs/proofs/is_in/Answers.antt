-- `board_jobs::is_in` meets its contract: one test and then the other. Assumes nothing.
use borrow.Author.Tests.{le-leb, lt-leb}
use Rattle.board_jobs.proofs.is_in.Goals as goal

pub returns-then-run-block : goal.returns-then-run-block
returns-then-run-block c = rw (le-leb _ _ c.if-run-block.true)

pub returns-else-run-block : goal.returns-else-run-block
returns-else-run-block c = rw (lt-leb _ _ c.if-run-block.false)
