-- `shift_turns::end_of_input` meets its contract: by the phase. Assumes nothing.
use Rattle.shift_turns.proofs.TurnLaws.{ends}
use Rattle.shift_turns.proofs.end_of_input.Goals as goal

pub returns-in-Begins : goal.returns-in-Begins
returns-in-Begins c = rw c.in-Begins.is c.end_of_input.ensures

pub returns-in_default : goal.returns-in_default
returns-in_default c = ends c.args.shift.phase c.in_default.not-Begins c.closes.ensures
