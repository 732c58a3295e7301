-- `cards_table::card_of` meets its contract. The loop's invariant: the card of the digit is that among the cards from
-- i on. Assumes nothing.
use Rattle.cards_request.specs.declared.FurtherCard.{FurtherCard}
use Rattle.cards_table.specs.Table.{letters_in}
use Rattle.cards_further.proofs.Fourteen.{fourteen, past, within-cards, the-texts, text_of}
use Rattle.cards_table.proofs.TableLaws.{card-here, card-later, card-none}
use mathlib.Core.Path.{ap, ◌∙◌}
use native.Mathlib.Omega.{arith}
use Rattle.cards_table.specs.Table.{card_at}
use Rattle.cards_table.proofs.card_of.Goals as goal

pub offset_bounds-cards-i : goal.offset_bounds-cards-i
offset_bounds-cards-i c =
    let l = fourteen c.args.further _ c.well_formed.0 in
    omega (arith, l, within-cards c.args.further c.count_of-n.result c.count_of-n.ensures, c.loop-i-test.true)

pub bounds-cards-i : goal.bounds-cards-i
bounds-cards-i c =
    let l = fourteen c.args.further _ c.well_formed.0 in
    omega (arith, l, within-cards c.args.further c.count_of-n.result c.count_of-n.ensures, c.loop-i-test.true)

pub returns-then-row_of-digit : goal.returns-then-row_of-digit
returns-then-row_of-digit c =
    card-here c.args.further.cards c.count_of-n.result
    (within-cards c.args.further c.count_of-n.result c.count_of-n.ensures)
    c.loop-i.i past c.loop-i-test.true c.args.digit c.row_of.result c.row_of.ensures c.if-row_of-digit.true
    ∙ c.loop-i.invariant ∙ ap (card_at c.args.digit) (the-texts c.args.further c.count_of-n.result c.count_of-n.ensures)

pub loop-i-preserved : goal.loop-i-preserved
loop-i-preserved c =
    card-later c.args.further.cards c.count_of-n.result
    (within-cards c.args.further c.count_of-n.result c.count_of-n.ensures)
    c.loop-i.i past c.loop-i-test.true c.args.digit c.row_of.result c.row_of.ensures c.if-row_of-digit.false
    ∙ c.loop-i.invariant

pub returns : goal.returns
returns c =
    ap (λ (c : FurtherCard). letters_in (text_of c)) c.no_card.ensures
    ∙ card-none c.args.further.cards c.count_of-n.result c.loop-i.i c.args.digit (omega arith) ∙ c.loop-i.invariant
    ∙ ap (card_at c.args.digit) (the-texts c.args.further c.count_of-n.result c.count_of-n.ensures)
