-- `cards_group::priority_at` meets its contract: the field was gathered whole. Assumes nothing.
use native.Mathlib.Omega.{arith}
use mathlib.Core.Path.{◌≡◌, sym, ap, ◌∙◌}
use lib.Seq.{length-take-le}
use Rattle.cards_fields.specs.Fields.{field}
use Rattle.cards_fields.proofs.FieldLaws.{whole, within}
use Rattle.cards_fields.specs.declared.Field.{Field}
use Rattle.cards_pty.specs.Pty.{priority_of}
use borrow.Author.Rules.{rules}
use Rattle.cards_group.proofs.priority_at.Goals as goal

pub slice_bounds-bytes-end : goal.slice_bounds-bytes-end
slice_bounds-bytes-end c =
    omega (arith, within c.field_at-f.result (field c.args.card.now 9) c.field_at-f.ensures, ap (λ (f : Field). f.len) c.field_at-f.ensures, c.requires)

pub slice_bounds-priority_of-end : goal.slice_bounds-priority_of-end
slice_bounds-priority_of-end c =
    sym (length-take-le c.field_at-f.result.len c.field_at-f.result.bytes
    (omega (
      arith,
      within c.field_at-f.result (field c.args.card.now 9) c.field_at-f.ensures,
      ap (λ (f : Field). f.len) c.field_at-f.ensures,
      c.requires,
    )))

pub returns : goal.returns
returns c =
    let e : c.priority_of.result ≡ priority_of (field c.args.card.now 9) =
    c.priority_of.ensures ∙ ap priority_of (whole c.field_at-f.result (field c.args.card.now 9) c.field_at-f.ensures
    (omega (arith, ap (λ (f : Field). f.len) c.field_at-f.ensures, c.requires))) in
    rw (← e) (search rules)
