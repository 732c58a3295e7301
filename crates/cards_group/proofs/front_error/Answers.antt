-- `cards_group::front_error` meets its contract, one law for each way out, in document 01's order. Assumes nothing.
use Prim.Native.Nat.{◌≤◌}
use mathlib.Core.Path.{sym, ap, ◌∙◌}
use native.Mathlib.Omega.{arith}
use lib.ListN.{length}
use Rattle.std.proofs.lemmas.Result.{err_from_is_err_and}
use Rattle.cards_fields.specs.Fields.{field, fields}
use Rattle.cards_pty.specs.Pty.{rules}
use Rattle.cards_request.specs.Errors.{good}
use Rattle.cards_pty.proofs.PtyLaws.{not-longer, fields-good}
use Rattle.cards_group.proofs.GroupLaws.{front-pty, front-many, front-count, front-other, front-good}
use Rattle.cards_group.proofs.front_error.Goals as goal

pub returns-in_err-pty_error : goal.returns-in_err-pty_error
returns-in_err-pty_error c =
    let p = err_from_is_err_and c.from_residual.result c.from_residual.ensures.1 in
    rw (p.1, p.2) (sym c.in_err-pty_error.was ∙ front-pty c.args.n c.args.pty.now c.args.fac.now c.pty_error.result c.pty_error.ensures
    (ap good c.in_err-pty_error.was))

pub returns-then-n-gt-MOST_CARDS : goal.returns-then-n-gt-MOST_CARDS
returns-then-n-gt-MOST_CARDS c =
    sym (front-many c.args.n c.args.pty.now c.args.fac.now
    (sym c.pty_error.ensures ∙ c.in_ok-pty_error.was)
    c.if-n-gt-MOST_CARDS.true)

pub number_at-requires : goal.number_at-requires
unfolding rules
number_at-requires c =
    let h : length (field c.args.pty.now 2) ≤ 2 =
    not-longer (fields c.args.pty.now)
    (fields-good c.args.pty.now
    (sym c.pty_error.ensures ∙ c.in_ok-pty_error.was))
    2 (omega arith) in
    omega arith

pub returns-then-number_at-n : goal.returns-then-number_at-n
returns-then-number_at-n c =
    sym (front-count c.args.n c.args.pty.now c.args.fac.now
    (sym c.pty_error.ensures ∙ c.in_ok-pty_error.was) c.if-n-gt-MOST_CARDS.false
    (λ e. c.if-number_at-n.true (c.number_at.ensures ∙ e)))

pub returns-then-field_is : goal.returns-then-field_is
returns-then-field_is c =
    sym (front-good c.args.n c.args.pty.now c.args.fac.now
    (sym c.pty_error.ensures ∙ c.in_ok-pty_error.was) c.if-n-gt-MOST_CARDS.false
    (sym c.number_at.ensures ∙ c.if-number_at-n.false) (sym c.field_is.ensures ∙ c.if-field_is.true))

pub returns : goal.returns
returns c =
    sym (front-other c.args.n c.args.pty.now c.args.fac.now
    (sym c.pty_error.ensures ∙ c.in_ok-pty_error.was) c.if-n-gt-MOST_CARDS.false
    (sym c.number_at.ensures ∙ c.if-number_at-n.false) (sym c.field_is.ensures ∙ c.if-field_is.false))
