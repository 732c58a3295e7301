-- `lists::after::busy_with` meets its contract. Assumes nothing.
use mathlib.Core.Path.{refl}
use Rattle.packets.specs.State.{place_of, packet_of}
use Rattle.lists.proofs.after.busy_with.Goals as goal

pub returns : goal.returns
unfolding place_of packet_of
returns c = refl
