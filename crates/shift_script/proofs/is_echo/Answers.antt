-- `shift_script::is_echo` meets its contract: an empty line, or its first byte. Assumes nothing.
use Rattle.std.proofs.Common.{arith}
use Rattle.std.proofs.lemmas.Grind.{common_steps}
use Rattle.shift_script.specs.Script.{is_echo}
use Rattle.shift_script.proofs.is_echo.Goals as goal

pub returns-then-is_empty : goal.returns-then-is_empty
unfolding is_echo
returns-then-is_empty c = grind (arith, common_steps)

pub returns-else-is_empty : goal.returns-else-is_empty
unfolding is_echo
returns-else-is_empty c = grind (arith, common_steps)
