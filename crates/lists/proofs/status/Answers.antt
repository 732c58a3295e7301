-- `lists::status` meets its contract. Assumes nothing.
use native.Mathlib.Omega.{arith}
use borrow.Author.Tests.{lt-ltb}
use Rattle.packets.specs.State.{packet_in}
use Rattle.lists.proofs.status.Goals as goal

pub returns : goal.returns
unfolding packet_in
returns c = rw (lt-ltb c.args.place 16 (omega arith), lt-ltb c.args.packet 16 (omega arith), c.packet_in.ensures)
