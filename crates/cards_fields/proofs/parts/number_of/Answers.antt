-- `cards_fields::parts::number_of` meets its contract: the text was gathered whole, or is too long. Assumes nothing.
use mathlib.Core.Path.{sym}
use Rattle.cards_fields.specs.Fields.{spaceless}
use Rattle.cards_fields.proofs.PartLaws.{number-much}
use Rattle.cards_fields.proofs.parts.number_of.Goals as goal

pub returns-then-f-gt6 : goal.returns-then-f-gt6
returns-then-f-gt6 c = sym (number-much (spaceless c.args.s.now) c.gathered-f.result c.gathered-f.ensures c.if-f-gt6.true)
