-- `assign_heads::give` meets its contract. The loop's invariant is `Gave`. Assumes nothing.
use Rattle.assign_heads.specs.GaveOut.{Gave}
use Rattle.assign_heads.proofs.give.Given as goal

abbrev pub invariant-loop-i : goal.invariant-loop-i
invariant-loop-i l = Gave l.free l.own l.initial.left l.initial.next l.next l.left l.i
