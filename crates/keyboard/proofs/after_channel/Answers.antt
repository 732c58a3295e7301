-- `keyboard::after_channel` meets its contract: what the unit field says. Assumes nothing.
use Rattle.keyboard.proofs.after_channel.Goals as goal

pub returns-in-Ok : goal.returns-in-Ok
returns-in-Ok c = rw (← c.number_field.ensures, c.in-Ok.is)

pub returns-in-Err : goal.returns-in-Err
returns-in-Err c = rw (← c.number_field.ensures, c.in-Err.is)
