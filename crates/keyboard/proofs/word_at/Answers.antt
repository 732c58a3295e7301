-- `keyboard::word_at` meets its contract. The loop's invariant: the word that is asked for is the one at `left` of
-- those from `at` on. Assumes nothing.
use mathlib.Core.Path.{◌∙◌}
use native.Mathlib.Omega.{arith}
use Rattle.line_words.proofs.SplitLaws.{word}
use Rattle.keyboard.proofs.MessageLaws.{at_here, passed, passed_none, at_none, at-later}
use Rattle.keyboard.specs.Messages.{message_words}
use borrow.Author.Rules.{rules}
use Rattle.keyboard.proofs.word_at.Goals as goal
use Rattle.keyboard.proofs.word_at.Goals.{then-len-gt0+else-left-eq0, else-len-gt0}

pub loop-k-init : goal.loop-k-init
unfolding message_words
loop-k-init c = search rules

pub overflow_add-end : goal.overflow_add-end
overflow_add-end c =
    let w = (word c.args.message.now c.loop-k.at c.loop-k.invariant.0 c.until-len.result c.until-len.ensures) in
    omega arith

pub returns-then-left-eq0 : goal.returns-then-left-eq0
returns-then-left-eq0 c =
    at_here c.args.message.now c.loop-k.at c.until-len.result c.loop-k.left
    (word c.args.message.now c.loop-k.at c.loop-k.invariant.0 c.until-len.result c.until-len.ensures) c.if-len-gt0.true
    c.if-left-eq0.true
    ∙ c.loop-k.invariant.1

pub returns-then-end-message : goal.returns-then-end-message
returns-then-end-message c =
    let w = (word c.args.message.now c.loop-k.at c.loop-k.invariant.0 c.until-len.result c.until-len.ensures) in
    at_none c.args.message.now c.loop-k.at c.until-len.result c.loop-k.left w c.if-len-gt0.left
    (elim c.if-len-gt0.branch [
      | then-len-gt0+else-left-eq0 q ↦ passed c.args.message.now c.loop-k.at c.until-len.result c.loop-k.left w c.if-len-gt0.left q.if-len-gt0.true q.if-left-eq0.false q.left-is
      | else-len-gt0 q ↦ passed_none c.args.message.now c.loop-k.at c.until-len.result c.loop-k.left w c.if-len-gt0.left q.if-len-gt0.false q.left-is
    ])
    c.if-end-message.true
    ∙ c.loop-k.invariant.1

pub overflow_add-at : goal.overflow_add-at
overflow_add-at c =
    let w = (word c.args.message.now c.loop-k.at c.loop-k.invariant.0 c.until-len.result c.until-len.ensures) in
    omega arith

pub loop-k-smaller : goal.loop-k-smaller
loop-k-smaller c =
    let w = (word c.args.message.now c.loop-k.at c.loop-k.invariant.0 c.until-len.result c.until-len.ensures) in
    omega arith

pub loop-k-preserved : goal.loop-k-preserved
loop-k-preserved c =
    let w = (word c.args.message.now c.loop-k.at c.loop-k.invariant.0 c.until-len.result c.until-len.ensures) in (
      omega arith,
      at-later c.args.message.now c.loop-k.at c.until-len.result c.loop-k.left w c.if-len-gt0.left
          (elim c.if-len-gt0.branch [
            | then-len-gt0+else-left-eq0 q ↦ passed c.args.message.now c.loop-k.at c.until-len.result c.loop-k.left w c.if-len-gt0.left q.if-len-gt0.true q.if-left-eq0.false q.left-is
            | else-len-gt0 q ↦ passed_none c.args.message.now c.loop-k.at c.until-len.result c.loop-k.left w c.if-len-gt0.left q.if-len-gt0.false q.left-is
          ])
          c.if-end-message.false
          ∙ c.loop-k.invariant.1,
    )

pub slice_bounds-result-end : goal.slice_bounds-result-end
slice_bounds-result-end c =
    let w = (word c.args.message.now c.loop-k.at c.loop-k.invariant.0 c.until-len.result c.until-len.ensures) in
    omega arith
