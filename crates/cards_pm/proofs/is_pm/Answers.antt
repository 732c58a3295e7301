-- `cards_pm::is_pm` meets its contract: the first two bytes of the type as they were gathered. Assumes nothing.
use Rattle.cards_pm.proofs.PmLaws.{pm-by-second, pm-by-first}
use Rattle.cards_pm.proofs.is_pm.Goals as goal

pub returns-then-b-eq80 : goal.returns-then-b-eq80
returns-then-b-eq80 c =
    pm-by-second c.args.card.now c.field_at-f.result c.field_at-f.ensures c.if-b-eq80.true

pub returns-else-b-eq80 : goal.returns-else-b-eq80
returns-else-b-eq80 c =
    pm-by-first c.args.card.now c.field_at-f.result c.field_at-f.ensures c.if-b-eq80.false
