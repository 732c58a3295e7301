-- `cards_pty::error_at` meets its contract: a field of at most twelve bytes was gathered whole, a longer one is too
-- long. Assumes nothing.
use native.Mathlib.Omega.{arith}
use mathlib.Core.Path.{sym, ap, ◌∙◌}
use lib.Seq.{length-take-le}
use Rattle.cards_fields.specs.Fields.{field}
use Rattle.cards_fields.proofs.FieldLaws.{whole, within}
use Rattle.cards_fields.specs.declared.Field.{Field}
use Rattle.cards_pty.specs.Pty.{rule_at, field_error}
use Rattle.cards_pty.proofs.PtyLaws.{most-small, much-too-long}
use Rattle.cards_request.specs.declared.CardError.{CardError}
use Rattle.std.specs.Prelude.{Err}
use Rattle.cards_pty.proofs.error_at.Goals as goal

pub returns-then-n-gt12 : goal.returns-then-n-gt12
returns-then-n-gt12 c =
    ap (λ (e : CardError). Err e) c.length_error.ensures
    ∙ sym (much-too-long c.args.k (rule_at c.args.k) (field c.args.card.now c.args.k) (most-small c.args.k)
    (omega (arith, ap (λ (f : Field). f.len) c.field_at-f.ensures)))

pub slice_bounds-bytes-end : goal.slice_bounds-bytes-end
slice_bounds-bytes-end c =
    omega (arith, within c.field_at-f.result (field c.args.card.now c.args.k) c.field_at-f.ensures)

pub slice_bounds-field_error-end : goal.slice_bounds-field_error-end
slice_bounds-field_error-end c =
    sym (length-take-le c.field_at-f.result.len c.field_at-f.result.bytes
    (omega (arith, within c.field_at-f.result (field c.args.card.now c.args.k) c.field_at-f.ensures)))

pub returns : goal.returns
returns c =
    c.field_error.ensures ∙ ap (field_error c.args.k (rule_at c.args.k))
    (whole c.field_at-f.result (field c.args.card.now c.args.k) c.field_at-f.ensures c.if-n-gt12.false)
