-- `keyboard::small_value` meets its contract. The loop's invariant: n is the number of the first i digits, at most 15.
-- Assumes nothing.
use mathlib.Core.Path.{sym, ◌∙◌}
use native.Mathlib.Omega.{arith}
use Rattle.words.proofs.WordLaws.{value-end}
use Rattle.line_words.proofs.FormLaws.{digit_at}
use Rattle.keyboard.proofs.MessageLaws.{value_on, value-over}
use Rattle.keyboard.proofs.small_value.Goals as goal

pub overflow_sub-n : goal.overflow_sub-n
overflow_sub-n c = let d = digit_at c.args.digits.now c.loop-b.b-index c.requires c.loop-b-test.true in omega arith

pub overflow_add-n : goal.overflow_add-n
overflow_add-n c = let d = digit_at c.args.digits.now c.loop-b.b-index c.requires c.loop-b-test.true in omega arith

pub returns-then-n-gt15 : goal.returns-then-n-gt15
returns-then-n-gt15 c =
    value-over c.args.digits.now c.loop-b.b-index c.loop-b.n c.loop-b.invariant.1 c.loop-b-test.true c.if-n-gt15.true

pub loop-b-preserved : goal.loop-b-preserved
loop-b-preserved c =
    (omega arith, value_on c.args.digits.now c.loop-b.b-index c.loop-b.n c.loop-b.invariant.1 c.loop-b-test.true)

pub returns : goal.returns
returns c =
    let e = sym (value-end c.args.digits.now c.loop-b.b-index c.loop-b.n c.loop-b-test.false) ∙ c.loop-b.invariant.1 in
    omega arith
