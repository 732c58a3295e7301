-- `cards_pm::digit_of` meets its contract: the third byte of the type as it was gathered. Assumes nothing.
use Rattle.cards_pm.proofs.PmLaws.{digit-is}
use Rattle.cards_pm.proofs.digit_of.Goals as goal

pub returns : goal.returns
returns c = digit-is c.args.card.now c.field_at.result c.field_at.ensures
