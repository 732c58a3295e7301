-- `schedule_candidates::all` meets its contract: the loop keeps the marks of the requests so far, and none behind
-- them. Assumes nothing.
use Rattle.schedule_candidates.proofs.MarkingLaws.{Marking}
use Rattle.schedule_candidates.proofs.all.Given as goal

abbrev pub invariant-loop-k : goal.invariant-loop-k
invariant-loop-k l = Marking l.requests l.marks l.k
