-- `cards_full::check::is_taken_further` meets its contract: the cards stand in the room whole. Assumes nothing.
use mathlib.Core.Path.{sym, ap, ◌∙◌}
use Rattle.text.proofs.RoomLaws.{written-length}
use Rattle.cards_request.specs.Errors.{good}
use Rattle.cards_further.proofs.Fourteen.{fourteen, texts-78}
use Rattle.cards_full.proofs.FurtherPut.{not-read, not-counted, compared}
use Rattle.cards_full.proofs.check.is_taken_further.Goals as goal

pub slice_bounds-cards-end : goal.slice_bounds-cards-end
slice_bounds-cards-end c = written-length c.further_in-n.ensures

pub returns-then-not-is_good : goal.returns-then-not-is_good
returns-then-not-is_good c =
    not-read c.args.further (fourteen c.args.further _ c.well_formed.0) (texts-78 c.args.further _ c.well_formed.0) c.further_in-n.ensures
    (sym (ap good c.further_error.ensures) ∙ sym c.is_good.ensures ∙ c.if-not-is_good.true)

pub returns-then-again-further : goal.returns-then-again-further
returns-then-again-further c =
    not-counted c.args.further (fourteen c.args.further _ c.well_formed.0) (texts-78 c.args.further _ c.well_formed.0) c.further_in-n.ensures
    c.held-again.result c.held-again.ensures c.if-again-further.true

pub returns : goal.returns
returns c =
    compared c.args.further (fourteen c.args.further _ c.well_formed.0) (texts-78 c.args.further _ c.well_formed.0) c.further_in-n.ensures
    c.held-again.result c.held-again.ensures (sym (ap good c.further_error.ensures) ∙ sym c.is_good.ensures ∙ c.if-not-is_good.false)
    c.if-again-further.false c.are_same_cards.result c.are_same_cards.ensures
