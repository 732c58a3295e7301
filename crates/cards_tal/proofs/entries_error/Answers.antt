-- `cards_tal::entries_error` meets its contract: one entry further, or the error of the one at hand. Assumes nothing.
use Prim.Native.Nat.{ℕ, ◌+◌}
use mathlib.Core.Path.{sym, ap, ◌∙◌}
use mathlib.Core.List.{List}
use native.Mathlib.Omega.{arith}
use Rattle.std.proofs.lemmas.Result.{err_from_is_err_and}
use Rattle.cards_fields.specs.Fields.{spaceless}
use Rattle.cards_tal.specs.Tal.{entry_error}
use Rattle.cards_tal.proofs.TalLaws.{entry-wrong, entry_next, entries-done}
use Rattle.cards_tal.proofs.entries_error.Goals as goal

pub returns-in_err-entry_error : goal.returns-in_err-entry_error
returns-in_err-entry_error c =
    let p = err_from_is_err_and c.from_residual.result c.from_residual.ensures.1 in
    rw (p.1, p.2) (sym (entry-wrong c.args.card.now c.loop-k.k (omega (arith, c.last_field-k-end.ensures)) c.entry_error.result (c.entry_error.ensures ∙ ap (λ (s : List ℕ). entry_error (spaceless s)) c.raw_field.ensures) c.in_err-entry_error.field-0.0 c.in_err-entry_error.was) ∙ c.loop-k.invariant.1)

pub loop-k-preserved : goal.loop-k-preserved
loop-k-preserved c = (omega arith, sym (entry_next c.args.card.now c.loop-k.k (omega (arith, c.last_field-k-end.ensures)) c.entry_error.result (c.entry_error.ensures ∙ ap (λ (s : List ℕ). entry_error (spaceless s)) c.raw_field.ensures) c.in_ok-entry_error.was) ∙ c.loop-k.invariant.1)

pub returns-in_ok-entry_error : goal.returns-in_ok-entry_error
returns-in_ok-entry_error c =
    sym (entries-done c.args.card.now (c.loop-k.k + 1) (omega (arith, c.last_field-k-end.ensures)))
    ∙ sym (entry_next c.args.card.now c.loop-k.k (omega (arith, c.last_field-k-end.ensures)) c.entry_error.result (c.entry_error.ensures ∙ ap (λ (s : List ℕ). entry_error (spaceless s)) c.raw_field.ensures) c.in_ok-entry_error.was) ∙ c.loop-k.invariant.1

pub returns : goal.returns
returns c = sym (entries-done c.args.card.now c.loop-k.k (omega (arith, c.last_field-k-end.ensures))) ∙ c.loop-k.invariant.1
