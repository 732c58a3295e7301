-- `channels::has_unit` meets its contract, by the definition. Assumes nothing.
use Rattle.std.proofs.Common.{arith}
use Rattle.std.proofs.lemmas.Grind.{common_steps}
use Rattle.channels.specs.Channels.{has_unit}
use Rattle.channels.proofs.has_unit.Goals as goal

pub returns-then-unit-le15 : goal.returns-then-unit-le15
unfolding has_unit
returns-then-unit-le15 c = grind (arith, common_steps)

pub returns-else-unit-le15 : goal.returns-else-unit-le15
unfolding has_unit
returns-else-unit-le15 c = grind (arith, common_steps)
