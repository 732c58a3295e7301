-- `line_words::word_at` meets its contract. The loop's invariant: the word that is asked for is the one at `left` of
-- those from `at` on. Assumes nothing.
use mathlib.Core.Path.{◌∙◌}
use native.Mathlib.Omega.{arith}
use Rattle.line_words.proofs.SplitLaws.{at_here, at_none, at-later, word}
use Rattle.line_words.proofs.word_at.Goals as goal

pub overflow_add-end : goal.overflow_add-end
overflow_add-end c =
    let w = (word c.args.line.now c.loop-left.at c.loop-left.invariant.0 c.until-len.result c.until-len.ensures) in
    omega arith

pub returns-then-left-eq0 : goal.returns-then-left-eq0
returns-then-left-eq0 c =
    at_here c.args.line.now c.loop-left.at c.until-len.result c.loop-left.left
    (word c.args.line.now c.loop-left.at c.loop-left.invariant.0 c.until-len.result c.until-len.ensures) c.if-left-eq0.true
    ∙ c.loop-left.invariant.1

pub returns-then-end-line : goal.returns-then-end-line
returns-then-end-line c =
    at_none c.args.line.now c.loop-left.at c.until-len.result c.loop-left.left
    (word c.args.line.now c.loop-left.at c.loop-left.invariant.0 c.until-len.result c.until-len.ensures) c.if-left-eq0.false c.if-end-line.true
    ∙ c.loop-left.invariant.1

pub overflow_add-at : goal.overflow_add-at
overflow_add-at c =
    let w = (word c.args.line.now c.loop-left.at c.loop-left.invariant.0 c.until-len.result c.until-len.ensures) in
    omega arith

pub loop-left-smaller : goal.loop-left-smaller
loop-left-smaller c =
    let w = (word c.args.line.now c.loop-left.at c.loop-left.invariant.0 c.until-len.result c.until-len.ensures) in
    omega arith

pub loop-left-preserved : goal.loop-left-preserved
loop-left-preserved c =
    let w = (word c.args.line.now c.loop-left.at c.loop-left.invariant.0 c.until-len.result c.until-len.ensures) in
    (omega arith, at-later c.args.line.now c.loop-left.at c.until-len.result c.loop-left.left w c.if-left-eq0.false c.if-end-line.false ∙ c.loop-left.invariant.1)

pub slice_bounds-result-end : goal.slice_bounds-result-end
slice_bounds-result-end c =
    let w = (word c.args.line.now c.loop-left.at c.loop-left.invariant.0 c.until-len.result c.until-len.ensures) in
    omega arith
