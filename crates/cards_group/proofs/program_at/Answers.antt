-- `cards_group::program_at` meets its contract: the bytes of a gathered field. Assumes nothing.
use mathlib.Core.Path.{ap}
use Rattle.cards_fields.specs.declared.Field.{Field}
use Rattle.cards_group.proofs.program_at.Goals as goal

pub returns : goal.returns
returns c = ap (λ (f : Field). f.bytes) c.field_at-f.ensures
