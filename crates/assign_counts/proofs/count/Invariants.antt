-- `assign_counts::count` meets its contract. The loop keeps `Counting`: the channels below c are counted, the
-- others not yet. Assumes nothing.
use Rattle.assign_counts.proofs.Counting.{Counting}
use Rattle.assign_counts.proofs.count.Given as goal

abbrev pub invariant-loop-c : goal.invariant-loop-c
invariant-loop-c l = Counting l.grid l.channels l.of l.c
