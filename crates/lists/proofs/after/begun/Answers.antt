-- `lists::after::begun` meets its contract. Assumes nothing.
use Rattle.packets.specs.State.{packet_of}
use Rattle.lists.proofs.after.begun.Goals as goal

pub returns : goal.returns
unfolding packet_of
returns c = rw c.with_status_at-packets.ensures
