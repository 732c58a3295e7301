-- `shift_turns::after_line` meets its contract: every line but `DECK` leaves the phase of calls. Assumes nothing.
use Rattle.shift_turns.proofs.TurnLaws.{talks-on}
use Rattle.shift_turns.proofs.after_line.Goals as goal

pub returns-in_default : goal.returns-in_default
returns-in_default c = talks-on c.args.call c.in_default.not-Deck
