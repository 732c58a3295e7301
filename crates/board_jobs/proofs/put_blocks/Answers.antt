-- `board_jobs::put_blocks` meets its contract. The loop's invariant is `Goes`: whoever puts the blocks that are left
-- has put them all. Assumes nothing.
use mathlib.Core.List.{[], ◌∷◌}
use native.Mathlib.Omega.{arith}
use Rattle.text.proofs.RoomLaws.{goes-start}
use Rattle.answer_pieces.proofs.PieceLaws.{puts-on, puts-over}
use Rattle.board_jobs.specs.Blocks.{block_byte}
use Rattle.board_jobs.proofs.put_blocks.Goals as goal

pub loop-b-init : goal.loop-b-init
loop-b-init c = (omega arith, goes-start _ _)

pub loop-b-preserved : goal.loop-b-preserved
loop-b-preserved c = (
  omega arith,
  puts-on (λ block. block_byte c.args.jobs block ∷ []) 32 (omega arith) c.loop-b.invariant.1
      (rw c.block_byte.ensures at c.put_byte.ensures),
)

pub returns : goal.returns
returns c = puts-over (λ block. block_byte c.args.jobs block ∷ []) 32 (omega arith) c.loop-b.invariant.1
