-- `shift_hearing::finish` meets its contract: what is kept is the line's front. Assumes nothing.
use Rattle.shift_hearing.proofs.finish.Goals as goal

pub returns : goal.returns
returns c = rw (← c.front.ensures) c.end_of_input.ensures
