-- `cards_lines::shown_by` meets its contract. Assumes nothing.
use mathlib.Core.Path.{sym, ap, ◌∙◌}
use lib.Seq.{length-take-le}
use native.Mathlib.Omega.{arith}
use Rattle.cards_fields.specs.Fields.{field}
use Rattle.cards_fields.proofs.FieldLaws.{within}
use Rattle.cards_fields.specs.declared.Field.{Field}
use Rattle.cards_fields.proofs.FieldLaws.{first_six, six-padded}
use Rattle.cards_lines.proofs.ShownLaws.{shown-none, shown-short, shown-long, shown-other, shown-formed}
use Rattle.cards_lines.proofs.shown_by.Goals as goal

pub returns-then-not-field_is : goal.returns-then-not-field_is
returns-then-not-field_is c =
    shown-none c.args.card.now c.args.shown c.field_is.ensures (c.if-not-field_is.true)

pub returns-then-n-lt1 : goal.returns-then-n-lt1
returns-then-n-lt1 c =
    shown-short c.args.card.now c.args.shown c.field_is.ensures (c.if-not-field_is.false)
    c.field_at-f.ensures c.if-n-lt1.true

pub returns-then-n-gt6 : goal.returns-then-n-gt6
returns-then-n-gt6 c =
    shown-long c.args.card.now c.args.shown c.field_is.ensures (c.if-not-field_is.false) c.field_at-f.ensures
    c.if-n-lt1.false c.if-n-gt6.true

pub slice_bounds-b-end : goal.slice_bounds-b-end
slice_bounds-b-end c =
    omega (arith, c.if-n-gt6.false, within c.field_at-f.result (field c.args.card.now 0) c.field_at-f.ensures)

pub slice_bounds-all_of-end : goal.slice_bounds-all_of-end
slice_bounds-all_of-end c =
    sym (length-take-le c.field_at-f.result.len c.field_at-f.result.bytes
    (omega (arith, c.if-n-gt6.false, within c.field_at-f.result (field c.args.card.now 0) c.field_at-f.ensures)))

pub returns-then-all_of : goal.returns-then-all_of
returns-then-all_of c =
    shown-formed c.args.card.now c.args.shown c.field_is.ensures (c.if-not-field_is.false) c.field_at-f.ensures c.if-n-lt1.false
    c.if-n-gt6.false c.all_of.ensures c.if-all_of.true
    (ap (λ (f : Field). first_six f.bytes) c.field_at-f.ensures ∙ six-padded (field c.args.card.now 0))

pub returns : goal.returns
returns c =
    shown-other c.args.card.now c.args.shown c.field_is.ensures (c.if-not-field_is.false) c.field_at-f.ensures c.if-n-lt1.false
    c.if-n-gt6.false c.all_of.ensures c.if-all_of.false
