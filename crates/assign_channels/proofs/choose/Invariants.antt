-- `assign_channels::choose` meets its contract: it is the greedy choice. The loop's invariant is `Going`. Assumes
-- nothing.
use Rattle.assign_channels.proofs.Loops.{Going}
use Rattle.assign_channels.proofs.choose.Given as goal

abbrev pub invariant-loop-l : goal.invariant-loop-l
invariant-loop-l l = Going l.initial.left.0 l.asked l.on l.left.0 l.l
