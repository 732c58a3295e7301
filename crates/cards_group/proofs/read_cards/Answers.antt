-- `cards_group::read_cards` meets its contract: the errors up to the second card's type, those that go by number, the FAC
-- card's, the further cards', then the request. Assumes nothing.
use Prim.Native.Nat.{◌≤◌}
use mathlib.Core.Path.{sym, ap, ◌∙◌}
use native.Mathlib.Omega.{arith}
use lib.ListN.{length}
use Rattle.std.proofs.lemmas.Result.{err_from_is_err_and}
use Rattle.cards_fields.specs.Fields.{field, fields}
use Rattle.cards_fields.specs.Deck.{cards_of}
use Rattle.cards_request.specs.Errors.{CardVerdict, good}
use Rattle.cards_request.specs.Requests.{no_request}
use Rattle.cards_pty.specs.Pty.{rules}
use Rattle.cards_pty.proofs.PtyLaws.{not-longer, fields-good}
use Rattle.cards_group.specs.Group.{answer}
use Rattle.cards_group.proofs.GroupLaws.{front-pty-good, read-front, read-order, read-wrong, read-contents, read-good}
use Rattle.cards_group.proofs.read_cards.Goals as goal

pub returns-in_err-front_error : goal.returns-in_err-front_error
returns-in_err-front_error c =
    let p = err_from_is_err_and c.from_residual.result c.from_residual.ensures.1 in
    rw (p.1, p.2) (ap (λ (v : CardVerdict). answer v no_request) (sym c.in_err-front_error.was)
    ∙ sym (read-front c.args.n c.args.pty.now c.args.fac.now (cards_of c.args.rest.now) c.front_error.result c.front_error.ensures
    (ap good c.in_err-front_error.was)))

pub order_error-requires : goal.order_error-requires
unfolding rules
order_error-requires c =
    let h : length (field c.args.pty.now 0) ≤ 6 =
    not-longer (fields c.args.pty.now)
    (fields-good c.args.pty.now (front-pty-good c.args.n c.args.pty.now c.args.fac.now (cards_of c.args.rest.now) c.front_error.result
    c.front_error.ensures (ap good c.in_ok-front_error.was)))
    0 (omega arith) in
    omega arith

pub returns-in_err-order_error : goal.returns-in_err-order_error
returns-in_err-order_error c =
    let p = err_from_is_err_and c.from_residual-in_err-order_error.result c.from_residual-in_err-order_error.ensures.1 in
    rw (p.1, p.2) (ap (λ (v : CardVerdict). answer v no_request) (sym c.in_err-order_error.was)
    ∙ sym (read-order c.args.n c.args.pty.now c.args.fac.now (cards_of c.args.rest.now) c.front_error.result c.front_error.ensures
    (ap good c.in_ok-front_error.was) c.order_error.result c.order_error.ensures (ap good c.in_err-order_error.was)))

pub returns-in_err-facilities : goal.returns-in_err-facilities
returns-in_err-facilities c =
    let p = err_from_is_err_and c.from_residual-in_err-facilities.result c.from_residual-in_err-facilities.ensures.1 in
    rw (p.1, p.2) (sym (read-wrong c.args.n c.args.pty.now c.args.fac.now (cards_of c.args.rest.now) c.front_error.result c.front_error.ensures
    (ap good c.in_ok-front_error.was) c.order_error.result c.order_error.ensures (ap good c.in_ok-order_error.was)
    c.read_fac.result c.read_fac.ensures _ c.in_err-facilities.was))

pub returns-in_err-contents_error : goal.returns-in_err-contents_error
returns-in_err-contents_error c =
    let p = err_from_is_err_and c.from_residual-in_err-contents_error.result c.from_residual-in_err-contents_error.ensures.1 in
    rw (p.1, p.2) (ap (λ (v : CardVerdict). answer v no_request) (sym c.in_err-contents_error.was)
    ∙ sym (read-contents c.args.n c.args.pty.now c.args.fac.now (cards_of c.args.rest.now) c.front_error.result c.front_error.ensures
    (ap good c.in_ok-front_error.was) c.order_error.result c.order_error.ensures (ap good c.in_ok-order_error.was)
    c.read_fac.result c.read_fac.ensures _ c.in_ok-facilities.was c.contents_error.result c.contents_error.ensures
    (ap good c.in_err-contents_error.was)))

pub request-requires : goal.request-requires
request-requires c =
    fields-good c.args.pty.now (front-pty-good c.args.n c.args.pty.now c.args.fac.now (cards_of c.args.rest.now) c.front_error.result
    c.front_error.ensures (ap good c.in_ok-front_error.was))

pub returns : goal.returns
returns c =
    read-good c.args.n c.args.pty.now c.args.fac.now (cards_of c.args.rest.now) c.front_error.result c.front_error.ensures
    (ap good c.in_ok-front_error.was) c.order_error.result c.order_error.ensures (ap good c.in_ok-order_error.was)
    c.read_fac.result c.read_fac.ensures _ c.in_ok-facilities.was c.contents_error.result c.contents_error.ensures
    (ap good c.in_ok-contents_error.was) c.request.result c.request.ensures
