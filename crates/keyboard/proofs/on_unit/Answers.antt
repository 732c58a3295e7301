-- `keyboard::on_unit` meets its contract: what the channel field says, and then the unit field. Assumes nothing.
use mathlib.Core.Path.{◌∙◌}
use Rattle.keyboard.specs.Messages.{on_unit}
use Rattle.keyboard.proofs.on_unit.Goals as goal

pub returns-in-Ok : goal.returns-in-Ok
unfolding on_unit
returns-in-Ok c =
    c.after_channel.ensures ∙ rw (c.word_at-in-Ok.ensures, ← c.word_at.ensures, ← c.number_field.ensures, c.in-Ok.is)

pub returns-in-Err : goal.returns-in-Err
unfolding on_unit
returns-in-Err c =
    rw (← c.word_at.ensures, ← c.number_field.ensures, c.in-Err.is)
