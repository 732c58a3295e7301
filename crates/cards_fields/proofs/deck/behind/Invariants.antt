-- `cards_fields::deck::behind` meets its contract. The loop's invariant: what the first cards take is what was passed and
-- what `left` of the cards from `at` on take. Assumes nothing.
use Prim.Native.Nat.{◌+◌, ◌-◌, ◌≤◌}
use mathlib.Core.Path.{◌≡◌}
use lib.ListN.{length, take, drop}
use Rattle.cards_fields.specs.Deck.{cards_of, size}
use Rattle.cards_fields.proofs.deck.behind.Given as goal

abbrev pub invariant-loop-at : goal.invariant-loop-at
invariant-loop-at l = (l.at ≤ length l.text) × (l.at + size (take l.left (cards_of (drop l.at l.text))) ≡ size (take l.k (cards_of l.text)))

abbrev pub decreases-loop-at : goal.decreases-loop-at
decreases-loop-at l = length l.text - l.at
