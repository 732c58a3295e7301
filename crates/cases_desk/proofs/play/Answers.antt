-- Each call takes at least a byte, and none behind the end of the piece.
use Rattle.std.proofs.Common.{arith}
use Rattle.cases_desk.proofs.PieceLaws.{part-within}
use Rattle.cases_desk.proofs.play.Goals as goal

pub overflow_add-at : goal.overflow_add-at
overflow_add-at c =
    let end = c.end_of-end in
    let t = part-within c.args.input.now c.loop-at.at end.result end.ensures.0 end.ensures.1 c.hear-heard.ensures in
    omega (arith, t.0, end.ensures.1, c.loop-at.invariant.fits)

pub loop-at-preserved : goal.loop-at-preserved
loop-at-preserved c =
    let end = c.end_of-end in
    let t = part-within c.args.input.now c.loop-at.at end.result end.ensures.0 end.ensures.1 c.hear-heard.ensures in
    record { within = omega (arith, t.0, end.ensures.1); fits = c.loop-at.invariant.fits }
