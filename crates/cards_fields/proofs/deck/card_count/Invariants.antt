-- `cards_fields::deck::card_count` meets its contract. The loop's invariant: the cards passed and those from `at` on
-- are all the cards. Assumes nothing.
use Prim.Native.Nat.{◌+◌, ◌≤◌, ◌-◌}
use mathlib.Core.Path.{◌≡◌}
use lib.ListN.{length, drop}
use Rattle.cards_fields.specs.Deck.{cards_of}
use Rattle.cards_fields.proofs.deck.card_count.Given as goal

abbrev pub invariant-loop-at : goal.invariant-loop-at
invariant-loop-at l = ((l.at ≤ length l.text) × (l.n ≤ l.at)) × (l.n + length (cards_of (drop l.at l.text)) ≡ length (cards_of l.text))

abbrev pub decreases-loop-at : goal.decreases-loop-at
decreases-loop-at l = length l.text - l.at
