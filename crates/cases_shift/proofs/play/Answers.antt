-- Each call takes at least a byte, and none that the script does not have.
use Rattle.std.proofs.Common.{arith}
use Rattle.shift_hearing.proofs.PieceLaws.{taken-within}
use Rattle.cases_shift.proofs.play.Goals as goal

pub overflow_add-at : goal.overflow_add-at
overflow_add-at c =
    let t = taken-within c.args.script.now c.loop-at.at c.loop-at-test.true c.hear-heard.ensures in
    omega (arith, t.0, c.loop-at.invariant.fits)

pub loop-at-preserved : goal.loop-at-preserved
loop-at-preserved c =
    let t = taken-within c.args.script.now c.loop-at.at c.loop-at-test.true c.hear-heard.ensures in
    record { within = t.0; fits = c.loop-at.invariant.fits }
