-- `cards_further::held_card` meets its contract: the card's text put into blanks. Assumes nothing.
use Rattle.cards_further.proofs.FurtherLaws.{card-held}
use Rattle.cards_further.proofs.held_card.Goals as goal

pub returns : goal.returns
returns c = card-held c.canonical_in-len.ensures
