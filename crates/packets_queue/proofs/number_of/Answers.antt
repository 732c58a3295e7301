-- `packets_queue::number_of` meets its contract. Assumes nothing.
use mathlib.Core.Path.{refl}
use Rattle.packets.specs.State.{packet_of}
use borrow.Author.Rules.{rules}
use Rattle.packets_queue.proofs.number_of.Goals as goal

pub returns : goal.returns
unfolding packet_of
returns c = record { is = refl; small = search rules }
