-- `cards_table::card_of` meets its contract. The loop's invariant: the card of the digit is that among the cards from
-- i on. Assumes nothing.
use mathlib.Core.Path.{◌≡◌}
use lib.ListN.{take, drop}
use Rattle.cards_request.specs.Requests.{texts_in}
use Rattle.cards_table.specs.Table.{card_at}
use Rattle.cards_table.proofs.card_of.Given as goal

abbrev pub invariant-loop-i : goal.invariant-loop-i
invariant-loop-i l = card_at l.digit (texts_in (drop l.i (take l.n l.cards))) ≡ card_at l.digit (texts_in (take l.n l.cards))
