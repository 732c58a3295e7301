-- `line_words::value_of` meets its contract. The loop's invariant: n is the number of the first i digits, below ten
-- to their count. Assumes nothing.
use Prim.Native.Nat.{◌-◌}
use mathlib.Core.Path.{sym, ◌∙◌}
use native.Mathlib.Omega.{arith}
use lib.ListN.{get_or}
use Rattle.line_words.proofs.FormLaws.{value-small, digit_at, tens-nine, value-step, value-end, times}
use Rattle.line_words.proofs.value_of.Goals as goal

pub overflow_mul-n : goal.overflow_mul-n
overflow_mul-n c =
    omega (arith, times c.loop-b.n c.args.base c.requires.0, tens-nine c.loop-b.b-index 8 (omega arith))

pub overflow_sub-n : goal.overflow_sub-n
overflow_sub-n c =
    let d = digit_at c.args.word.now c.loop-b.b-index c.requires.1.1 c.loop-b-test.true in
    omega arith

pub overflow_cast-n : goal.overflow_cast-n
overflow_cast-n c =
    let d = digit_at c.args.word.now c.loop-b.b-index c.requires.1.1 c.loop-b-test.true in
    omega arith

pub overflow_add-n : goal.overflow_add-n
overflow_add-n c =
    let d = digit_at c.args.word.now c.loop-b.b-index c.requires.1.1 c.loop-b-test.true in
    omega (arith, times c.loop-b.n c.args.base c.requires.0, tens-nine c.loop-b.b-index 8 (omega arith))

pub loop-b-preserved : goal.loop-b-preserved
loop-b-preserved c =
    let d = digit_at c.args.word.now c.loop-b.b-index c.requires.1.1 c.loop-b-test.true in (
      value-small c.loop-b.n c.args.base (get_or c.args.word.now c.loop-b.b-index 0 - 48) c.loop-b.b-index c.requires.0 (omega arith) (omega arith),
      sym (value-step c.args.base c.args.word.now c.loop-b.b-index c.loop-b.n c.loop-b-test.true) ∙ c.loop-b.invariant.1,
    )

pub returns : goal.returns
returns c =
    sym (value-end c.args.base c.args.word.now c.loop-b.b-index c.loop-b.n c.loop-b-test.false) ∙ c.loop-b.invariant.1
