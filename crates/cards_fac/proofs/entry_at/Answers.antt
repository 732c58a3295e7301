-- `cards_fac::entry_at` meets its contract: a field that was gathered whole is read as it is, of a longer one the code
-- alone. Assumes nothing.
use mathlib.Core.Path.{refl, sym, ap, ◌∙◌}
use native.Mathlib.Omega.{arith}
use Rattle.std.proofs.lemmas.Result.{err_from_is_err_and}
use Rattle.cards_fields.specs.Fields.{field}
use Rattle.cards_fields.specs.declared.Field.{Field}
use Rattle.cards_fac.specs.Fac.{code_error}
use Rattle.cards_fac.proofs.EntryLaws.{known, unknown, entry-error, entry-long, read-error, code-padded}
use Rattle.cards_fac.proofs.entry_at.Goals as goal

pub returns-in_err-code_of : goal.returns-in_err-code_of
returns-in_err-code_of c =
    let p = err_from_is_err_and c.from_residual.result c.from_residual.ensures.1 in
    let t = field c.args.card.now c.args.k in
    let e = ap (λ (g : Field). code_error g.bytes) c.field_at-f.ensures ∙ code-padded t (omega (arith, ap (λ (g : Field). g.len) c.field_at-f.ensures, c.if-n-le12.false)) in
    rw (p.1, p.2) (read-error t c.in_err-code_of.field-0.0 _ refl
    (entry-error t c.in_err-code_of.field-0.0 (sym e ∙ unknown c.field_at-f.result.bytes c.in_err-code_of.field-0.0 (sym c.code_of.ensures ∙ c.in_err-code_of.was))))

pub returns : goal.returns
returns c =
    let t = field c.args.card.now c.args.k in
    let l = ap (λ (g : Field). g.len) c.field_at-f.ensures in
    let e = ap (λ (g : Field). code_error g.bytes) c.field_at-f.ensures ∙ code-padded t (omega (arith, l, c.if-n-le12.false)) in
    read-error t _ _ refl
    (entry-long t (sym e ∙ (known c.field_at-f.result.bytes _ (sym c.code_of.ensures ∙ c.in_ok-code_of.was)).0) (omega (arith, l, c.if-n-le12.false)))
