-- `lists::after::started` meets its contract. Assumes nothing.
use Rattle.packets.specs.State.{place_of, packet_of}
use Rattle.lists.proofs.after.started.Goals as goal

pub returns : goal.returns
unfolding place_of packet_of
returns c = rw c.packet_in-q.ensures
