-- `cards_fac::read_fac` meets its contract, one law for each way out. Assumes nothing.
use mathlib.Core.Path.{sym, ◌∙◌}
use Rattle.std.proofs.lemmas.Result.{err_from_is_err_and}
use Rattle.cards_fac.proofs.AskLaws.{fac-malformed, fac-entries, fac-core}
use Rattle.cards_fac.proofs.read_fac.Goals as goal

pub returns-then-is_malformed : goal.returns-then-is_malformed
returns-then-is_malformed c = sym (fac-malformed c.args.card.now (sym c.is_malformed.ensures ∙ c.if-is_malformed.true))

pub returns-in_err-f : goal.returns-in_err-f
returns-in_err-f c =
    let p = err_from_is_err_and c.from_residual.result c.from_residual.ensures.1 in
    rw (p.1, p.2) (sym (fac-entries c.args.card.now (sym c.is_malformed.ensures ∙ c.if-is_malformed.false) c.facilities.result c.facilities.ensures c.in_err-f.field-0.0 c.in_err-f.was))

pub returns-in_err-core_error : goal.returns-in_err-core_error
returns-in_err-core_error c =
    let p = err_from_is_err_and c.from_residual-in_err-core_error.result c.from_residual-in_err-core_error.ensures.1 in
    rw (p.1, p.2) (sym (rw c.in_err-core_error.was at (fac-core c.args.card.now (sym c.is_malformed.ensures ∙ c.if-is_malformed.false) c.facilities.result c.facilities.ensures c.in_ok-f.f c.in_ok-f.was c.core_error.result c.core_error.ensures)))

pub returns : goal.returns
returns c = sym (rw c.in_ok-core_error.was at (fac-core c.args.card.now (sym c.is_malformed.ensures ∙ c.if-is_malformed.false) c.facilities.result c.facilities.ensures c.in_ok-f.f c.in_ok-f.was c.core_error.result c.core_error.ensures))
