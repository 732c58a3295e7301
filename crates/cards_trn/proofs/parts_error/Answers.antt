-- `cards_trn::parts_error` meets its contract: one part further, or the error of the one at hand. Assumes nothing.
use mathlib.Core.Path.{sym, ◌∙◌}
use native.Mathlib.Omega.{arith}
use Rattle.std.proofs.lemmas.Result.{err_from_is_err_and}
use Rattle.cards_fields.specs.Fields.{spaceless}
use Rattle.cards_trn.proofs.TrnLaws.{parts_all, part-wrong, part-next, parts-done}
use Rattle.cards_trn.proofs.parts_error.Goals as goal

pub loop-k-init : goal.loop-k-init
loop-k-init c = parts_all (spaceless c.args.t.now)

pub returns-in_err-part_error : goal.returns-in_err-part_error
returns-in_err-part_error c =
    let p = err_from_is_err_and c.from_residual.result c.from_residual.ensures.1 in
    rw (p.1, p.2) (sym (part-wrong (spaceless c.args.t.now) c.loop-k.k c.loop-k-test.true c.part_error.result c.part_error.ensures c.in_err-part_error.field-0.0 c.in_err-part_error.was) ∙ c.loop-k.invariant)

pub loop-k-preserved : goal.loop-k-preserved
loop-k-preserved c = sym (part-next (spaceless c.args.t.now) c.loop-k.k c.loop-k-test.true c.part_error.result c.part_error.ensures c.in_ok-part_error.was) ∙ c.loop-k.invariant

pub returns : goal.returns
returns c = sym (parts-done (spaceless c.args.t.now) c.loop-k.k (omega arith)) ∙ c.loop-k.invariant
