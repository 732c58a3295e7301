-- `shift_turns::gathers` meets its contract: by whether the deck is too long, and whether the card is the termination
-- card. Assumes nothing.
use mathlib.Core.Path.{refl, sym, ◌∙◌}
use Rattle.shift_turns.proofs.TurnLaws.{silent, deck-within, gathered}
use borrow.Author.Rules.{rules}
use Rattle.shift_turns.proofs.gathers.Goals as goal

pub returns-in_default : goal.returns-in_default
returns-in_default c = gathered c.add_card.ensures c.in_default.is refl c.passes.ensures

pub entered-requires : goal.entered-requires
entered-requires c =
    let d = deck-within c.add_card.ensures c.in-Some.is in
    search rules

pub returns-then-is_last_card : goal.returns-then-is_last_card
returns-then-is_last_card c =
    gathered c.add_card.ensures c.in-Some.is (sym c.if-is_last_card.true ∙ c.is_last_card.ensures) c.entered.ensures

pub returns : goal.returns
returns c =
    gathered c.add_card.ensures c.in-Some.is (sym c.if-is_last_card.false ∙ c.is_last_card.ensures)
    (silent c.turned.ensures)
