-- Each call takes at least a byte, and none that the piece does not have.
use Rattle.std.proofs.Common.{arith}
use Rattle.shift_hearing.proofs.PieceLaws.{taken-within}
use Rattle.shift.proofs.talk.Goals as goal

pub overflow_add-from : goal.overflow_add-from
overflow_add-from g c =
    let t = taken-within c.args.piece.now c.loop-from.from c.loop-from-test.true c.hear-heard.ensures in
    omega (arith, t.0, c.loop-from.invariant.fits)

pub loop-from-preserved : goal.loop-from-preserved
loop-from-preserved g c =
    let t = taken-within c.args.piece.now c.loop-from.from c.loop-from-test.true c.hear-heard.ensures in
    record { within = t.0; fits = c.loop-from.invariant.fits }
