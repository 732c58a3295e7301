-- `words::value_of` meets its contract. The loop's invariant: n is the number of the first digits, and at most what
-- so many bytes of any value write. Assumes nothing.
use mathlib.Core.Path.{sym, ◌∙◌}
use native.Mathlib.Numerals.{add-one}
use native.Mathlib.Omega.{arith}
use Rattle.words.proofs.WordLaws.{cap-most, value-step, value-end}
use Rattle.words.proofs.value_of.Goals as goal

pub overflow_mul-n : goal.overflow_mul-n
overflow_mul-n c = omega (arith, cap-most c.loop-b.b-index 6 (omega arith))

pub overflow_add-n : goal.overflow_add-n
overflow_add-n c = omega (arith, cap-most c.loop-b.b-index 5 (omega arith))

pub loop-b-preserved : goal.loop-b-preserved
loop-b-preserved c = (
  rw (add-one c.loop-b.b-index) (omega arith),
  rw (c.saturating_sub.ensures, ← value-step c.args.s.now c.loop-b.b-index c.loop-b.n c.loop-b-test.true) c.loop-b.invariant.1,
)

pub returns : goal.returns
returns c =
    sym (value-end c.args.s.now c.loop-b.b-index c.loop-b.n c.loop-b-test.false) ∙ c.loop-b.invariant.1
