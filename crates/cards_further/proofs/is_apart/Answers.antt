-- `cards_further::is_apart` meets its contract: behind the first run there is one more. Assumes nothing.
use mathlib.Core.Path.{◌∙◌}
use Rattle.cards_further.specs.Together.{apart}
use Rattle.cards_further.proofs.FurtherLaws.{apart-left}
use Rattle.cards_further.proofs.is_apart.Goals as goal

pub returns : goal.returns
unfolding apart
returns g c =
    λ p h. c.is_any.ensures p h ∙ apart-left p c.args.rest.now c.skip-from.result c.skip-past.result (c.skip-from.ensures.left p h)
    (c.skip-past.ensures.left p h)
