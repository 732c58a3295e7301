-- `board_jobs::block_byte` meets its contract: the executive's blocks first. Assumes nothing.
use borrow.Author.Tests.{lt-ltb, le-ltb}
use Rattle.board_jobs.specs.Blocks.{block_byte}
use Rattle.board_jobs.proofs.block_byte.Goals as goal

pub returns-then-block-lt-FIRST_BLOCK : goal.returns-then-block-lt-FIRST_BLOCK
unfolding block_byte
returns-then-block-lt-FIRST_BLOCK c = rw (lt-ltb _ _ c.if-block-lt-FIRST_BLOCK.true)

pub returns-then-block-gt-LAST_BLOCK : goal.returns-then-block-gt-LAST_BLOCK
unfolding block_byte
returns-then-block-gt-LAST_BLOCK c = rw (le-ltb _ _ c.if-block-lt-FIRST_BLOCK.false, lt-ltb _ _ c.if-block-gt-LAST_BLOCK.true)

pub returns : goal.returns
unfolding block_byte
returns c = rw (le-ltb _ _ c.if-block-lt-FIRST_BLOCK.false, le-ltb _ _ c.if-block-gt-LAST_BLOCK.false) c.holder_in.ensures
