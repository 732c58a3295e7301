-- `shift_hearing::hear` meets its contract: its lines so far are heard, and what is left of the piece grows shorter.
-- Assumes nothing.
use mathlib.Core.Path.{sym, ◌∙◌}
use native.Mathlib.Omega.{arith}
use Rattle.input_lines.proofs.LineLaws.{taken-within}
use Rattle.shift_hearing.proofs.Loop.{start, part, whole, call-behind, named, ended}
use borrow.Author.Rules.{rules}
use Rattle.shift_hearing.proofs.hear.Goals as goal
use Rattle.shift_hearing.proofs.hear.Goals.{then-loop-taken-test+else-at-le-ENOUGH, else-loop-taken-test}

pub loop-taken-init : goal.loop-taken-init
loop-taken-init c = (start _ _ _, search rules)

pub overflow_add-taken : goal.overflow_add-taken
overflow_add-taken c =
    let t = taken-within c.args.piece.now c.loop-taken.taken c.loop-taken-test.true c.take_up-cut.ensures in
    omega (arith, t.0, c.loop-taken.invariant.1)

pub loop-taken-smaller-then-is_followed : goal.loop-taken-smaller-then-is_followed
loop-taken-smaller-then-is_followed c =
    let t = taken-within c.args.piece.now c.loop-taken.taken c.loop-taken-test.true c.take_up-cut.ensures in
    omega (arith, t.0, t.1)

pub loop-taken-preserved-then-is_followed : goal.loop-taken-preserved-then-is_followed
loop-taken-preserved-then-is_followed c = (
  whole c.loop-taken.invariant.0 c.loop-taken-test.true c.if-at-le-ENOUGH.true c.take_up-cut.ensures c.if-cut.true c.front.ensures
      (call-behind c.loop-taken.phase c.loop-taken.schedule c.follow-schedule.result c.loop-taken.lists c.asked-call.result c.front.result.now c.loop-taken.room
      c.loop-taken.answer _ c.loop-taken.out _ c.loop-taken.at c.answer_call-handled.result c.asked-call.ensures (sym c.is_for_lists.ensures ∙ c.if-is_for_lists.true)
      c.answer_call-handled.ensures c.follow-schedule.ensures),
  c.loop-taken.invariant.1,
)

pub loop-taken-smaller-else-is_followed : goal.loop-taken-smaller-else-is_followed
loop-taken-smaller-else-is_followed c =
    let t = taken-within c.args.piece.now c.loop-taken.taken c.loop-taken-test.true c.take_up-cut.ensures in
    omega (arith, t.0, t.1)

pub loop-taken-preserved-else-is_followed : goal.loop-taken-preserved-else-is_followed
loop-taken-preserved-else-is_followed c = (
  whole c.loop-taken.invariant.0 c.loop-taken-test.true c.if-at-le-ENOUGH.true c.take_up-cut.ensures c.if-cut.true c.front.ensures
      (call-behind c.loop-taken.phase c.loop-taken.schedule c.loop-taken.schedule c.loop-taken.lists c.asked-call.result c.front.result.now c.loop-taken.room
      c.loop-taken.answer _ c.loop-taken.out _ c.loop-taken.at c.answer_call-handled.result c.asked-call.ensures (sym c.is_for_lists.ensures ∙ c.if-is_for_lists.true)
      c.answer_call-handled.ensures (sym (c.is_followed.ensures c.if-is_followed.false c.loop-taken.schedule))),
  c.loop-taken.invariant.1,
)

pub loop-taken-smaller-else-is_for_lists : goal.loop-taken-smaller-else-is_for_lists
loop-taken-smaller-else-is_for_lists c =
    let t = taken-within c.args.piece.now c.loop-taken.taken c.loop-taken-test.true c.take_up-cut.ensures in
    omega (arith, t.0, t.1)

pub loop-taken-preserved-else-is_for_lists : goal.loop-taken-preserved-else-is_for_lists
loop-taken-preserved-else-is_for_lists c = (
  whole c.loop-taken.invariant.0 c.loop-taken-test.true c.if-at-le-ENOUGH.true c.take_up-cut.ensures c.if-cut.true c.front-else-is_for_lists.ensures
      (named c.shift_of-now.ensures c.answer_line-turn.ensures),
  c.loop-taken.invariant.1,
)

pub loop-taken-smaller : goal.loop-taken-smaller
loop-taken-smaller c =
    let t = taken-within c.args.piece.now c.loop-taken.taken c.loop-taken-test.true c.take_up-cut.ensures in
    omega (arith, t.0, t.1)

pub loop-taken-preserved : goal.loop-taken-preserved
loop-taken-preserved c = (
  part c.loop-taken.invariant.0 c.loop-taken-test.true c.if-at-le-ENOUGH.true c.take_up-cut.ensures c.if-cut.false,
  c.loop-taken.invariant.1,
)

pub returns : goal.returns
returns c =
    ended c.loop-taken.invariant.0 c.shift_of.ensures c.what_was_heard.ensures
    (λ l. elim c.loop-taken-test.branch [
      | then-loop-taken-test+else-at-le-ENOUGH w ↦ w.if-at-le-ENOUGH.false
      | else-loop-taken-test w ↦ absurd (omega (arith, w.loop-taken-test.false))
    ])
