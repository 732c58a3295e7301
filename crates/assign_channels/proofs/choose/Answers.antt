-- `assign_channels::choose` meets its contract: it is the greedy choice. The loop's invariant is `Going`. Assumes
-- nothing.
use mathlib.Core.Path.{◌≡◌, sym, ◌∙◌}
use native.Mathlib.Omega.{arith}
use lib.ListN.{length}
use Rattle.assign_channels.proofs.Loops.{start, same, turn, turn-none, pick-below, end, too_many, not-served, served, found}
use borrow.Author.Rules.{rules}
use Rattle.assign_channels.proofs.choose.Goals as goal
use Rattle.assign_channels.proofs.choose.Goals.{then-n-gt0, else-n-gt0}

pub returns-then-sum : goal.returns-then-sum
returns-then-sum c =
    let wide : length c.args.counts.0 ≡ 16 = search rules in
    let size : length c.args.wants.0 ≡ 16 = search rules in
    too_many c.args.counts c.args.wants wide size
    (omega (arith, c.sum.ensures, c.sum-2.ensures, c.if-sum.true))

pub returns-then-not-can_serve : goal.returns-then-not-can_serve
returns-then-not-can_serve c =
    let wide : length c.args.counts.0 ≡ 16 = search rules in
    let size : length c.args.wants.0 ≡ 16 = search rules in
    not-served c.args.counts c.args.wants wide size
    (omega (arith, c.sum.ensures, c.sum-2.ensures, c.if-sum.false))
    (sym c.can_serve.ensures ∙ c.if-not-can_serve.true)

pub loop-l-init : goal.loop-l-init
loop-l-init c =
    let wide : length c.args.counts.0 ≡ 16 = search rules in
    let size : length c.args.wants.0 ≡ 16 = search rules in
    let can = sym c.can_serve.ensures ∙ c.if-not-can_serve.false in
    start c.args.counts.0 c.args.wants.0 wide (served c.args.counts c.args.wants wide size can)

pub bounds-left-c : goal.bounds-left-c
bounds-left-c c =
    let size : length c.args.wants.0 ≡ 16 = search rules in
    let below = pick-below size c.loop-l-test.true c.loop-l.invariant c.if-n-gt0.true c.lowest-channel.ensures in
    omega (arith, c.loop-l.invariant.wide, below)

pub loop-l-preserved : goal.loop-l-preserved
loop-l-preserved c =
    let size : length c.args.wants.0 ≡ 16 = search rules in
    elim c.if-n-gt0.branch [
      | then-n-gt0 w ↦ same w.on-is w.left-is (turn size c.loop-l-test.true c.loop-l.invariant w.if-n-gt0.true w.lowest-channel.ensures)
      | else-n-gt0 w ↦ same w.on-is w.left-is (turn-none size c.loop-l-test.true c.loop-l.invariant (omega (arith, w)))
    ]

pub returns : goal.returns
returns c =
    let wide : length c.args.counts.0 ≡ 16 = search rules in
    let size : length c.args.wants.0 ≡ 16 = search rules in
    let can = sym c.can_serve.ensures ∙ c.if-not-can_serve.false in
    found c.args.counts c.args.wants wide size
    (omega (arith, c.sum.ensures, c.sum-2.ensures, c.if-sum.false))
    can (end size (omega arith) c.loop-l.invariant)
