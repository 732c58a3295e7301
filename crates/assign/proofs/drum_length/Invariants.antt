-- `assign::drum_length` meets its contract. The loop's invariant: the channels that are left decide. Assumes nothing.
use mathlib.Core.Path.{◌≡◌}
use lib.ListN.{drop}
use Rattle.assign.specs.Assignment.{drum_length}
use Rattle.assign.proofs.drum_length.Given as goal

abbrev pub invariant-loop-channel : goal.invariant-loop-channel
invariant-loop-channel l = drum_length (drop l.channel-index l.channel-items) ≡ drum_length l.channel-items
