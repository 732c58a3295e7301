-- `assign::serve_kinds` meets its contract. The loop's invariant is `KindsDone`; a kind is served, or nothing is asked for
-- it. Assumes nothing.
use native.Mathlib.Omega.{arith}
use borrow.Author.Tests.{not-true, not-false}
use Rattle.assign_heads.proofs.ServingLaws.{served-so, lacking-so}
use Rattle.assign_free.specs.Assignable.{is_free_of}
use Rattle.assign.proofs.KindsLaws.{as-stored, nothing-asked, none_yet, one_more, unasked, lacking, all_done}
use Rattle.assign.proofs.serve_kinds.Goals as goal
use Rattle.assign.proofs.serve_kinds.Goals.{then-sum-gt0+else-not-service, else-sum-gt0}

pub loop-order-init : goal.loop-order-init
loop-order-init c = none_yet (is_free_of c.args.units.of c.args.channels) c.args.wanted

pub returns-then-not-service : goal.returns-then-not-service
returns-then-not-service c =
    let no = not-true c.serve-service.result.ok c.if-not-service.true in
    lacking c.args.units.of c.args.channels c.args.wanted (omega (arith, c.well_formed)) c.loop-order.order c.loop-order-test.true
    c.free_units-free.ensures c.wants_of-wants.ensures (lacking-so c.free_units-free.result c.wants_of-wants.result c.loop-order.heads c.serve-service.result no c.serve-service.ensures)
    c.loop-order.invariant

pub loop-order-preserved : goal.loop-order-preserved
loop-order-preserved c =
    elim c.if-sum-gt0.branch [
      | then-sum-gt0+else-not-service w ↦ as-stored w.chosen-is w.heads-is
          (one_more c.args.units.of c.args.channels c.args.wanted (omega arith) c.loop-order.order c.loop-order-test.true w.free_units-free.ensures c.wants_of-wants.ensures
          (served-so w.free_units-free.result c.wants_of-wants.result c.loop-order.heads w.serve-service.result (not-false w.serve-service.result.ok w.if-not-service.false) w.serve-service.ensures) c.loop-order.invariant)
      | else-sum-gt0 w ↦ as-stored w.chosen-is w.heads-is
          (unasked c.args.units.of c.args.channels c.args.wanted c.loop-order.order c.loop-order-test.true
          (nothing-asked c.args.wanted c.wants_of-wants.result c.loop-order.order c.sum.result c.wants_of-wants.ensures c.sum.ensures w.if-sum-gt0.false) c.loop-order.invariant)
    ]

pub returns : goal.returns
returns c = all_done c.loop-order-test.false c.loop-order.invariant
