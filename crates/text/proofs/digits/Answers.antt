-- `text::digits` meets its contract. The loop's invariant is `Passed` of proofs/Scan.antt: what is read of the rest
-- is what is read of the whole. Assumes nothing.
use lib.ListN.{get_or}
use mathlib.Core.Path.{sym, ◌∙◌}
use Rattle.text.proofs.Scan.{stop, full, next, ended}
use Rattle.text.proofs.ClassLaws.{digit-bounds}
use native.Mathlib.Omega.{arith}
use Rattle.text.proofs.digits.Goals as goal

pub returns-then-not-is_digit : goal.returns-then-not-is_digit
returns-then-not-is_digit c =
    stop c.loop-i.invariant c.loop-i-test.true (sym c.is_digit.ensures ∙ c.if-not-is_digit.true)

pub returns-then-i-eq7 : goal.returns-then-i-eq7
returns-then-i-eq7 c =
    full c.loop-i.invariant c.loop-i-test.true (sym c.is_digit.ensures ∙ c.if-not-is_digit.false) c.if-i-eq7.true

pub overflow_sub-value : goal.overflow_sub-value
overflow_sub-value c =
    (digit-bounds (get_or c.args.s.now c.loop-i.i 0) (sym c.is_digit.ensures ∙ c.if-not-is_digit.false)).0

pub loop-i-preserved : goal.loop-i-preserved
loop-i-preserved c =
    next c.loop-i.invariant c.loop-i-test.true (sym c.is_digit.ensures ∙ c.if-not-is_digit.false) (omega arith)

pub returns : goal.returns
returns c = ended c.loop-i.invariant c.loop-i-test.false
