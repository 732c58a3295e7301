-- `cards_trn::transfers_error` meets its contract: one transfer further, or the error of the one at hand. Assumes nothing.
use Prim.Native.Nat.{ℕ, ◌+◌}
use mathlib.Core.Path.{sym, ap, ◌∙◌}
use mathlib.Core.List.{List}
use native.Mathlib.Omega.{arith}
use Rattle.std.proofs.lemmas.Result.{err_from_is_err_and}
use Rattle.cards_fields.specs.Fields.{spaceless}
use Rattle.cards_trn.specs.Trn.{transfer_error}
use Rattle.cards_trn.proofs.TrnLaws.{transfers-wrong, transfers-next, transfers-done}
use Rattle.cards_trn.proofs.transfers_error.Goals as goal

pub returns-in_err-transfer_error : goal.returns-in_err-transfer_error
returns-in_err-transfer_error c =
    let p = err_from_is_err_and c.from_residual.result c.from_residual.ensures.1 in
    rw (p.1, p.2) (sym (transfers-wrong c.args.card.now c.loop-k.k (omega (arith, c.last_field-k-end.ensures)) c.transfer_error.result (c.transfer_error.ensures ∙ ap (λ (s : List ℕ). transfer_error (spaceless s)) c.raw_field.ensures) c.in_err-transfer_error.field-0.0 c.in_err-transfer_error.was) ∙ c.loop-k.invariant.1)

pub loop-k-preserved : goal.loop-k-preserved
loop-k-preserved c = (omega arith, sym (transfers-next c.args.card.now c.loop-k.k (omega (arith, c.last_field-k-end.ensures)) c.transfer_error.result (c.transfer_error.ensures ∙ ap (λ (s : List ℕ). transfer_error (spaceless s)) c.raw_field.ensures) c.in_ok-transfer_error.was) ∙ c.loop-k.invariant.1)

pub returns-in_ok-transfer_error : goal.returns-in_ok-transfer_error
returns-in_ok-transfer_error c =
    sym (transfers-done c.args.card.now (c.loop-k.k + 1) (omega (arith, c.last_field-k-end.ensures)))
    ∙ sym (transfers-next c.args.card.now c.loop-k.k (omega (arith, c.last_field-k-end.ensures)) c.transfer_error.result (c.transfer_error.ensures ∙ ap (λ (s : List ℕ). transfer_error (spaceless s)) c.raw_field.ensures) c.in_ok-transfer_error.was) ∙ c.loop-k.invariant.1

pub returns : goal.returns
returns c = sym (transfers-done c.args.card.now c.loop-k.k (omega (arith, c.last_field-k-end.ensures))) ∙ c.loop-k.invariant.1
