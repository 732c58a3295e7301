-- `text::digits` meets its contract. The loop's invariant is `Passed` of proofs/Scan.antt: what is read of the rest
-- is what is read of the whole. Assumes nothing.
use Rattle.text.proofs.Scan.{Passed}
use Rattle.text.proofs.digits.Given as goal

abbrev pub invariant-loop-i : goal.invariant-loop-i
invariant-loop-i l = Passed l.s l.value l.i
