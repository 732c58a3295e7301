-- `cards_trn::trn_error` meets its contract, one law for each way out. Assumes nothing.
use Prim.Native.Nat.{ℕ}
use mathlib.Core.Path.{sym, ap, ◌∙◌}
use mathlib.Core.List.{List}
use native.Mathlib.Omega.{arith}
use Rattle.std.proofs.lemmas.Bool.Decides.{nat_tests}
use Rattle.std.proofs.lemmas.Result.{err_from_is_err_and}
use Rattle.cards_fields.specs.Fields.{spaceless}
use Rattle.cards_trn.specs.Trn.{third_error}
use Rattle.cards_trn.proofs.TrnLaws.{trn-malformed, trn-none, trn-third, trn-rest}
use Rattle.cards_trn.proofs.trn_error.Goals as goal

pub returns-then-is_malformed : goal.returns-then-is_malformed
returns-then-is_malformed c = grind (arith, nat_tests, trn-malformed, trn-none)

pub returns-in_err-third_error : goal.returns-in_err-third_error
returns-in_err-third_error c =
    let p = err_from_is_err_and c.from_residual.result c.from_residual.ensures.1 in
    rw (p.1, p.2)
    (sym (trn-third c.args.card.now c.args.counted (sym c.is_malformed.ensures ∙ c.if-is_malformed.false) (omega (arith, c.last_field.ensures)) c.third_error.result
    (c.third_error.ensures ∙ ap (λ (s : List ℕ). third_error c.args.counted (spaceless s)) c.raw_field.ensures) c.in_err-third_error.field-0.0 c.in_err-third_error.was))

pub returns : goal.returns
returns c =
    c.transfers_error.ensures ∙ trn-rest c.args.card.now c.args.counted (sym c.is_malformed.ensures ∙ c.if-is_malformed.false) (omega (arith, c.last_field.ensures))
    c.third_error.result (c.third_error.ensures ∙ ap (λ (s : List ℕ). third_error c.args.counted (spaceless s)) c.raw_field.ensures) c.in_ok-third_error.was
