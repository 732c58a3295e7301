-- `assign_counts::count` meets its contract. The loop keeps `Counting`: the channels below c are counted, the
-- others not yet. Assumes nothing.
use Prim.Native.Nat.{ℕ}
use mathlib.Core.Path.{subst}
use native.Mathlib.Omega.{arith}
use Rattle.assign_counts.specs.Assignable.{AssignableOn}
use Rattle.assign_counts.proofs.Counting.{start, past, counted, end}
use Rattle.assign_counts.proofs.count.Goals as goal
use Rattle.assign_counts.proofs.count.Goals.{then-order-lt-UNIT_KINDS, else-order-lt-UNIT_KINDS}

pub loop-c-init : goal.loop-c-init
loop-c-init c = start c.grid_of-grid.result c.args.channels

pub loop-c-preserved : goal.loop-c-preserved
loop-c-preserved c =
    elim c.if-order-lt-UNIT_KINDS.branch [
      | then-order-lt-UNIT_KINDS w ↦ counted c.loop-c-test.true c.loop-c.invariant w.if-order-lt-UNIT_KINDS.true c.order_on-order.ensures
          (subst (λ (n : ℕ). AssignableOn c.grid_of-grid.result c.loop-c.c n w.assignable_on.result) w.units_of-n.ensures w.assignable_on.ensures) w.of-is
      | else-order-lt-UNIT_KINDS w ↦ past c.loop-c-test.true c.loop-c.invariant (omega (arith, c.order_on-order.ensures, w.if-order-lt-UNIT_KINDS.false)) w.of-is
    ]

pub returns : goal.returns
returns c = end c.loop-c-test.false c.grid_of-grid.ensures.is c.loop-c.invariant
