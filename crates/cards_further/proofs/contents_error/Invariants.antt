-- `cards_further::contents_error` meets its contract. The loop's invariant: the first error is that of the cards from `at`
-- on. Assumes nothing.
use mathlib.Core.Path.{◌≡◌}
use Prim.Native.Nat.{◌-◌, ◌≤◌}
use lib.ListN.{length, drop}
use Rattle.cards_fields.specs.Deck.{cards_of}
use mathlib.Core.Bool.{false}
use Rattle.cards_further.specs.Further.{contents_error}
use Rattle.cards_further.proofs.contents_error.Given as goal

abbrev pub invariant-loop-at : goal.invariant-loop-at
invariant-loop-at l = (l.at ≤ length l.rest) × (contents_error l.counted (cards_of (drop l.at l.rest)) ≡ contents_error false (cards_of l.rest))

abbrev pub decreases-loop-at : goal.decreases-loop-at
decreases-loop-at l = length l.rest - l.at
