-- `assign_channels::lowest` meets its contract. The loop's invariant: the search that is left gives the whole
-- answer. Assumes nothing.
use mathlib.Core.Path.{sym, ◌∙◌}
use native.Mathlib.Omega.{arith}
use lib.ListN.{drop}
use Rattle.assign_channels.proofs.Loops.{lowest-found, lowest-small, lowest-barred, lowest-end}
use Rattle.assign_channels.proofs.lowest.Goals as goal
use Rattle.assign_channels.proofs.lowest.Goals.{then-n-there+else-can_serve, else-n-there}

pub returns-then-can_serve : goal.returns-then-can_serve
returns-then-can_serve c =
    let rest = drop c.args.from.0 c.args.wants.0 in
    let served = sym c.can_serve.ensures ∙ c.if-can_serve.true in
    sym (sym c.loop-c.invariant.1
    ∙ lowest-found c.args.counts.0 c.args.n rest c.loop-c.c c.loop-c-test.true c.if-n-there.true served)

pub loop-c-preserved : goal.loop-c-preserved
loop-c-preserved c = (
  omega arith,
  (elim c.if-n-there.branch [
    | then-n-there+else-can_serve w ↦ lowest-barred c.args.counts.0 c.args.n (drop c.args.from.0 c.args.wants.0) c.loop-c.c c.loop-c-test.true w.if-n-there.true
        (sym w.can_serve.ensures ∙ w.if-can_serve.false)
    | else-n-there w ↦ lowest-small c.args.counts.0 c.args.n (drop c.args.from.0 c.args.wants.0) c.loop-c.c c.loop-c-test.true w.if-n-there.false
  ]) ∙ c.loop-c.invariant.1,
)

pub returns : goal.returns
returns c =
    let rest = drop c.args.from.0 c.args.wants.0 in
    sym (sym c.loop-c.invariant.1 ∙ lowest-end c.args.counts.0 c.args.n rest c.loop-c.c (omega arith) ∙ omega arith)
