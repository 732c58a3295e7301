-- `cards_further::is_any` meets its contract: a card is left behind those that give a no. Assumes nothing.
use Rattle.cards_further.proofs.FurtherLaws.{any_left}
use Rattle.cards_further.proofs.is_any.Goals as goal

pub returns : goal.returns
returns g c =
    λ p h. any_left p c.args.rest.now c.skip-at.result c.card_len-len.result c.skip-at.ensures.within (c.skip-at.ensures.left p h) c.card_len-len.ensures
