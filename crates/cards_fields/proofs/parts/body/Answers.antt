-- `cards_fields::parts::body` meets its contract. Assumes nothing.
use mathlib.Core.Path.{sym}
use native.Mathlib.Omega.{arith}
use lib.Seq.{length-take-le}
use Rattle.words.specs.Words.{isnt}
use Rattle.words.proofs.WordLaws.{leading-most}
use Rattle.cards_fields.proofs.PartLaws.{before-period}
use Rattle.cards_fields.proofs.parts.body.Goals as goal

pub slice_bounds-result-end : goal.slice_bounds-result-end
slice_bounds-result-end c =
    sym (length-take-le c.until.result c.args.card.now (omega (arith, c.until.ensures, leading-most (isnt 46) c.args.card.now)))

pub returns : goal.returns
returns c = before-period c.args.card.now c.until.result c.until.ensures
