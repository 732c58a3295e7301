-- `shift_turns::close` meets its contract: by the phase. Assumes nothing.
use Rattle.std.proofs.Common.{arith}
use Rattle.std.proofs.lemmas.Grind.{common_steps}
use Rattle.text.proofs.RoomLaws.{none}
use Rattle.shift_turns.proofs.close.Goals as goal

pub returns-in-Begins : goal.returns-in-Begins
returns-in-Begins c = grind (arith, common_steps, none)
