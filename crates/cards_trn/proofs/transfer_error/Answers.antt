-- `cards_trn::transfer_error` meets its contract: the parts' error, or that there is a fifth. Assumes nothing.
use mathlib.Core.Path.{sym, ◌∙◌}
use Rattle.std.proofs.lemmas.Result.{err_from_is_err_and}
use Rattle.cards_trn.proofs.TrnLaws.{transfer-wrong, transfer-fifth, transfer-good}
use Rattle.cards_trn.proofs.transfer_error.Goals as goal

pub returns-in_err-parts_error : goal.returns-in_err-parts_error
returns-in_err-parts_error c =
    let p = err_from_is_err_and c.from_residual.result c.from_residual.ensures.1 in
    rw (p.1, p.2) (sym (transfer-wrong c.args.t.now c.in_err-parts_error.field-0.0 (sym c.parts_error.ensures ∙ c.in_err-parts_error.was)))

pub returns-then-cuts-gt3 : goal.returns-then-cuts-gt3
returns-then-cuts-gt3 c =
    sym (transfer-fifth c.args.t.now (sym c.parts_error.ensures ∙ c.in_ok-parts_error.was) c.cuts.result c.cuts.ensures c.if-cuts-gt3.true)

pub returns : goal.returns
returns c =
    sym (transfer-good c.args.t.now (sym c.parts_error.ensures ∙ c.in_ok-parts_error.was) c.cuts.result c.cuts.ensures c.if-cuts-gt3.false)
