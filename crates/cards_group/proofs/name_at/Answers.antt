-- `cards_group::name_at` meets its contract: the first six bytes of a gathered field. Assumes nothing.
use mathlib.Core.Path.{ap, ◌∙◌}
use Rattle.cards_fields.specs.Fields.{field}
use Rattle.cards_fields.specs.declared.Field.{Field}
use Rattle.cards_fields.proofs.FieldLaws.{first_six, six-padded}
use Rattle.cards_group.proofs.name_at.Goals as goal

pub returns : goal.returns
returns c =
    ap (λ (f : Field). first_six f.bytes) c.field_at-f.ensures ∙ six-padded (field c.args.card.now c.args.k)
