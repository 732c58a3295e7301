-- `cards_group::number_at` meets its contract: the field was gathered whole, and has at most six digits. Assumes
-- nothing.
use native.Mathlib.Omega.{arith}
use mathlib.Core.Path.{sym, ap, ◌∙◌}
use lib.Seq.{length-take-le}
use Rattle.cards_fields.specs.Fields.{field}
use Rattle.cards_fields.proofs.FieldLaws.{whole, within}
use Rattle.cards_fields.specs.declared.Field.{Field}
use Rattle.words.specs.Words.{number_in}
use Rattle.words.proofs.WordLaws.{number_short}
use Rattle.cards_group.proofs.number_at.Goals as goal

pub slice_bounds-bytes-end : goal.slice_bounds-bytes-end
slice_bounds-bytes-end c =
    omega (
      arith,
      within c.field_at-f.result (field c.args.card.now c.args.k) c.field_at-f.ensures,
      ap (λ (f : Field). f.len) c.field_at-f.ensures,
      c.requires,
    )

pub slice_bounds-number-end : goal.slice_bounds-number-end
slice_bounds-number-end c =
    sym (length-take-le c.field_at-f.result.len c.field_at-f.result.bytes
    (omega (
      arith,
      within c.field_at-f.result (field c.args.card.now c.args.k) c.field_at-f.ensures,
      ap (λ (f : Field). f.len) c.field_at-f.ensures,
      c.requires,
    )))

pub returns : goal.returns
returns c =
    c.number.ensures ∙ ap number_in (whole c.field_at-f.result (field c.args.card.now c.args.k) c.field_at-f.ensures
    (omega (arith, ap (λ (f : Field). f.len) c.field_at-f.ensures, c.requires)))
    ∙ number_short (field c.args.card.now c.args.k) c.requires
