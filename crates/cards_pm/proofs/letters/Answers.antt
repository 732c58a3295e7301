-- `cards_pm::letters` meets its contract: behind two commas of what stands before the last period. Assumes nothing.
use mathlib.Core.Path.{sym, ap, ◌∙◌}
use native.Mathlib.Omega.{arith}
use lib.Seq.{length-take-le}
use Rattle.cards_pm.specs.Pm.{behind_comma}
use Rattle.cards_pm.proofs.PmLaws.{body-most, letters-by}
use Rattle.cards_pm.proofs.letters.Goals as goal

pub slice_bounds-behind_comma-end : goal.slice_bounds-behind_comma-end
slice_bounds-behind_comma-end c =
    sym (length-take-le c.body_len-n.result c.args.card.now (omega (arith, c.body_len-n.ensures, body-most c.args.card.now)))

pub returns : goal.returns
returns c =
    c.behind_comma-2.ensures ∙ ap behind_comma c.behind_comma.ensures
    ∙ letters-by c.args.card.now c.body_len-n.result c.body_len-n.ensures
