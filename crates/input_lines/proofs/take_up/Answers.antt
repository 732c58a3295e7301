-- `input_lines::take_up` meets its contract: by whether the piece has an LF. Assumes nothing.
use native.Mathlib.Omega.{arith}
use mathlib.Core.Path.{sym}
use lib.Seq.{length-take-le}
use Rattle.words.specs.Words.{isnt}
use Rattle.words.proofs.WordLaws.{leading-most}
use Rattle.input_lines.proofs.Cuts.{cut_short, cut-whole}
use Rattle.input_lines.proofs.take_up.Goals as goal

pub slice_bounds-put_bytes-end : goal.slice_bounds-put_bytes-end
slice_bounds-put_bytes-end c =
    sym (length-take-le c.until-n.result c.args.piece.now (omega (arith, c.until-n.ensures, leading-most (isnt 10) c.args.piece.now)))

pub returns-then-n-piece : goal.returns-then-n-piece
returns-then-n-piece c =
    cut_short c.args.piece.now c.until-n.ensures c.put_bytes-end.ensures c.if-n-piece.true

pub overflow_add-result : goal.overflow_add-result
overflow_add-result c =
    omega (arith, c.until-n.ensures, leading-most (isnt 10) c.args.piece.now)

pub returns : goal.returns
returns c =
    cut-whole c.args.piece.now c.until-n.ensures c.put_bytes-end.ensures c.if-n-piece.false
