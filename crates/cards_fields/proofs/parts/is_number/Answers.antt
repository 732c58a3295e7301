-- `cards_fields::parts::is_number` meets its contract: another byte than a space, and digits, with spaces among them or
-- without. Assumes nothing.
use Rattle.cards_fields.proofs.PartLaws.{digits-spaceless, some-spaceless}
use Rattle.cards_fields.proofs.parts.is_number.Goals as goal

pub returns-then-not-all_in : goal.returns-then-not-all_in
returns-then-not-all_in c =
    rw (← some-spaceless c.args.s.now, ← c.all_in.ensures, c.if-not-all_in.true, ← digits-spaceless c.args.s.now) c.are_in_number.ensures

pub returns-else-not-all_in : goal.returns-else-not-all_in
returns-else-not-all_in c = rw (← some-spaceless c.args.s.now, ← c.all_in.ensures, c.if-not-all_in.false)
