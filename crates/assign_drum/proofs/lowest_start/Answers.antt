-- `assign_drum::lowest_start` meets its contract. The loop's invariant: no lower start fits. It ends since an area
-- that is in the way ends later. Assumes nothing.
use Rattle.numbers.proofs.Order.{le-or-lt}
use Rattle.assign_drum.specs.Blocks.{InTheWay}
use mathlib.Core.Logic.{⊎_elim}
use native.Mathlib.Omega.{arith}
use Rattle.assign_drum.proofs.BlocksLaws.{none_before, clear-free}
use Rattle.assign_drum.proofs.lowest_start.Goals as goal

pub loop-s-smaller : goal.loop-s-smaller
loop-s-smaller c =
    let w : InTheWay c.args.held c.loop-s.s c.args.n c.in-Some.end = c.in-Some.ensures in
    omega (arith, w.meets, w.is, w.small)

pub loop-s-preserved : goal.loop-s-preserved
loop-s-preserved c =
    let w : InTheWay c.args.held c.loop-s.s c.args.n c.in-Some.end = c.in-Some.ensures in (
      omega (arith, w.meets, w.is, w.small),
      λ b h a.
          ⊎_elim (λ l. none_before c.args.held c.args.n c.loop-s.s (omega arith) w b l h a.free) (λ l. c.loop-s.invariant.1 b l a)
          (le-or-lt c.loop-s.s b),
    )

pub returns-in_default : goal.returns-in_default
returns-in_default c = (
  (λ p. record { low = omega arith; high = omega arith; free = clear-free c.args.held c.args.n c.loop-s.s c.in_default.ensures }),
  λ b h f. c.loop-s.invariant.1 b h (f (omega arith)),
)

pub returns : goal.returns
returns c = λ b f. let a = f (omega arith) in c.loop-s.invariant.1 b (omega (arith, a.high)) a
