-- `keyboard::message_of` meets its contract. Assumes nothing.
use Rattle.keyboard.proofs.message_of.Goals as goal

pub returns : goal.returns
returns c = rw c.id_of.ensures
