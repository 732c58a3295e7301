-- `cards_group::mark_at` meets its contract: the first byte of a gathered field. Assumes nothing.
use Rattle.cards_fields.specs.Fields.{field}
use Rattle.cards_group.proofs.GroupLaws.{mark-padded}
use Rattle.cards_group.proofs.mark_at.Goals as goal

pub returns : goal.returns
returns c =
    rw c.field_at-f.ensures (mark-padded (field c.args.card.now c.args.k))
