-- `cards_fields::deck::card_at` meets its contract. The loop's invariant: the card that is asked for is the one at
-- `left` of those from `at` on. Assumes nothing.
use Prim.Native.Nat.{◌≤◌, ◌-◌}
use mathlib.Core.Path.{◌≡◌}
use mathlib.Core.List.{[]}
use lib.ListN.{length, get_or, drop}
use Rattle.cards_fields.specs.Deck.{cards_of}
use Rattle.cards_fields.proofs.deck.card_at.Given as goal

abbrev pub invariant-loop-at : goal.invariant-loop-at
invariant-loop-at l = (l.at ≤ length l.text) × (get_or (cards_of (drop l.at l.text)) l.left [] ≡ get_or (cards_of l.text) l.k [])

abbrev pub decreases-loop-at : goal.decreases-loop-at
decreases-loop-at l = length l.text - l.at
