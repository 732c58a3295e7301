-- `desk_show::is_id` meets its contract: by the length, and then every byte. Assumes nothing.
use Rattle.desk_show.proofs.IdLaws.{id-empty, id-long, id-tested}
use mathlib.Core.Path.{◌∙◌}
use Rattle.desk_show.proofs.is_id.Goals as goal

pub returns-then-id-lt1 : goal.returns-then-id-lt1
returns-then-id-lt1 c = id-empty c.args.id.now c.if-id-lt1.true

pub returns-then-id-gt6 : goal.returns-then-id-gt6
returns-then-id-gt6 c = id-long c.args.id.now c.if-id-gt6.true

pub returns : goal.returns
returns c = c.all_of.ensures ∙ id-tested c.args.id.now c.if-id-lt1.false c.if-id-gt6.false
