-- `assign::serve_kinds` meets its contract. The loop's invariant is `KindsDone`; a kind is served, or nothing is asked for
-- it. Assumes nothing.
use Rattle.assign_free.specs.Assignable.{is_free_of}
use Rattle.assign.specs.Kinds.{KindsDone}
use Rattle.assign.proofs.serve_kinds.Given as goal

abbrev pub invariant-loop-order : goal.invariant-loop-order
invariant-loop-order l = KindsDone (is_free_of l.units.of l.channels) l.wanted l.chosen l.heads l.order
