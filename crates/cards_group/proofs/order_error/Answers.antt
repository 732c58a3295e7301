-- `cards_group::order_error` meets its contract, one law for each way out. Assumes nothing.
use mathlib.Core.Path.{sym, ap, ◌∙◌}
use Rattle.std.proofs.lemmas.Result.{err_from_is_err_and}
use Rattle.cards_fields.specs.Deck.{cards_of}
use Rattle.cards_request.specs.Errors.{good}
use Rattle.cards_group.proofs.GroupLaws.{order-types, order-ids, order-together}
use Rattle.cards_group.proofs.order_error.Goals as goal

pub returns-in_err-types_error : goal.returns-in_err-types_error
returns-in_err-types_error c =
    let p = err_from_is_err_and c.from_residual.result c.from_residual.ensures.1 in
    rw (p.1, p.2) (sym c.in_err-types_error.was ∙ order-types c.args.pty.now c.args.fac.now (cards_of c.args.rest.now) c.types_error.result c.types_error.ensures
    (ap good c.in_err-types_error.was))

pub is_other_id-requires : goal.is_other_id-requires
is_other_id-requires c = c.requires

pub returns-then-is_other_id : goal.returns-then-is_other_id
returns-then-is_other_id c =
    sym (order-ids c.args.pty.now c.args.fac.now (cards_of c.args.rest.now) c.types_error.result c.types_error.ensures
    (ap good c.in_ok-types_error.was) (sym c.is_other_id.ensures ∙ c.if-is_other_id.true))

pub returns : goal.returns
returns c =
    c.together_error.ensures ∙ sym (order-together c.args.pty.now c.args.fac.now (cards_of c.args.rest.now) c.types_error.result
    c.types_error.ensures (ap good c.in_ok-types_error.was)
    (sym c.is_other_id.ensures ∙ c.if-is_other_id.false))
