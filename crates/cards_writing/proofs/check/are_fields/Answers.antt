-- `cards_writing::check::are_fields` meets its contract. The loop's invariant: the fields before index k are right,
-- so whether all are is said by those from there on. Assumes nothing.
use mathlib.Core.Path.{refl, sym, ap, ◌∙◌}
use Rattle.cards_request.specs.Errors.{good}
use Rattle.cards_pty.proofs.PtyLaws.{fields-done}
use Rattle.cards_writing.specs.Writing.{pty_fields}
use Rattle.cards_writing.proofs.CheckLaws.{fields-wrong, fields-right}
use Rattle.cards_writing.proofs.check.are_fields.Goals as goal

pub loop-k-init : goal.loop-k-init
loop-k-init c = refl

pub returns-then-not-is_field : goal.returns-then-not-is_field
returns-then-not-is_field c =
    sym (fields-wrong (pty_fields c.args.n c.args.r) c.loop-k.k c.loop-k-test.true c.is_field.result c.is_field.ensures
    (c.if-not-is_field.true))
    ∙ c.loop-k.invariant

pub loop-k-preserved : goal.loop-k-preserved
loop-k-preserved c =
    sym (fields-right (pty_fields c.args.n c.args.r) c.loop-k.k c.loop-k-test.true c.is_field.result c.is_field.ensures
    (c.if-not-is_field.false))
    ∙ c.loop-k.invariant

pub returns : goal.returns
returns c =
    sym (ap good (fields-done (pty_fields c.args.n c.args.r) c.loop-k.k c.loop-k-test.false)) ∙ c.loop-k.invariant
