-- `assign_heads::give` meets its contract. The loop's invariant is `Gave`. Assumes nothing.
use mathlib.Core.Path.{◌∙◌}
use native.Mathlib.Omega.{arith}
use Rattle.assign_heads.proofs.GaveOutLaws.{gave-none, gave-turn, gave-past, gave_all, own-small}
use borrow.Author.Rules.{rules}
use Rattle.assign_heads.proofs.give.Goals as goal
use Rattle.assign_heads.proofs.give.Goals.{then-free-i, else-free-i}

pub loop-i-init : goal.loop-i-init
loop-i-init c = gave-none c.args.free c.args.own c.args.wants c.args.heads (omega arith) (search rules)

pub taker-to-requires : goal.taker-to-requires
taker-to-requires c =
    own-small c.loop-i-test.true c.loop-i.invariant c.if-free-i.true c.requires

pub loop-i-preserved : goal.loop-i-preserved
loop-i-preserved c =
    elim c.if-free-i.branch [
      | then-free-i w ↦ gave-turn c.loop-i-test.true c.loop-i.invariant w.if-free-i.true c.requires w.taker-to.ensures (w.left-is ∙ w.less-left.ensures) w.next-is
      | else-free-i w ↦ gave-past c.loop-i-test.true c.loop-i.invariant w.if-free-i.false w.left-is w.next-is
    ]

pub returns : goal.returns
returns c = gave_all c.loop-i-test.false c.loop-i.invariant
