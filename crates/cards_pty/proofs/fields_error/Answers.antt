-- `cards_pty::fields_error` meets its contract: one field further, or the error of the one at hand. Assumes nothing.
use mathlib.Core.Path.{sym, ap, ◌∙◌}
use native.Mathlib.Omega.{arith}
use Rattle.std.proofs.lemmas.Result.{err_from_is_err_and}
use Rattle.cards_fields.specs.Fields.{fields}
use Rattle.cards_request.specs.Errors.{good}
use Rattle.cards_pty.proofs.PtyLaws.{field-wrong, field-right, fields-done}
use Rattle.cards_pty.proofs.fields_error.Goals as goal

pub returns-in_err-error_at : goal.returns-in_err-error_at
returns-in_err-error_at c =
    let p = err_from_is_err_and c.from_residual.result c.from_residual.ensures.1 in
    rw (p.1, p.2)
    (sym c.in_err-error_at.was
    ∙ sym (field-wrong (fields c.args.card.now) c.loop-k.k c.loop-k-test.true c.error_at.result c.error_at.ensures (ap good c.in_err-error_at.was))
    ∙ c.loop-k.invariant.1)

pub loop-k-preserved : goal.loop-k-preserved
loop-k-preserved c = (
  omega arith,
  sym (field-right (fields c.args.card.now) c.loop-k.k c.loop-k-test.true c.error_at.result c.error_at.ensures (ap good c.in_ok-error_at.was))
      ∙ c.loop-k.invariant.1,
)

pub returns : goal.returns
returns c =
    sym (fields-done (fields c.args.card.now) c.loop-k.k (omega arith)) ∙ c.loop-k.invariant.1
