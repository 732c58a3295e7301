-- `board_jobs::holds` meets its contract: one test and then the other. Assumes nothing.
use Rattle.std.proofs.Common.{arith}
use Rattle.std.proofs.lemmas.Grind.{common_steps}
use Rattle.board_jobs.specs.Blocks.{holds_block}
use Rattle.board_jobs.proofs.holds.Goals as goal

pub returns-then-is_in : goal.returns-then-is_in
unfolding holds_block
returns-then-is_in c = grind (arith, common_steps)

pub returns-else-is_in : goal.returns-else-is_in
unfolding holds_block
returns-else-is_in c = grind (arith, common_steps)

pub returns-else-not-is_empty : goal.returns-else-not-is_empty
unfolding holds_block
returns-else-not-is_empty c = grind (arith, common_steps)
