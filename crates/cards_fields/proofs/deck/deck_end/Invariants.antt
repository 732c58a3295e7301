-- `cards_fields::deck::deck_end` meets its contract. The loop's invariant: no card passed is the termination card, so
-- whether there is one, and where, is said by the cards from `at` on. Assumes nothing.
use Prim.Native.Nat.{◌+◌, ◌≤◌, ◌-◌}
use mathlib.Core.Path.{◌≡◌}
use lib.ListN.{length, drop}
use Rattle.numbers.specs.Limits.{deck_bytes}
use Rattle.cards_fields.specs.Deck.{cards_of, terminated, before, size}
use Rattle.cards_fields.proofs.deck.deck_end.Given as goal

abbrev pub invariant-loop-at : goal.invariant-loop-at
invariant-loop-at l =
    ((l.at ≤ length l.deck) × (length l.deck ≤ deck_bytes))
    × ((terminated (cards_of (drop l.at l.deck)) ≡ terminated (cards_of l.deck))
    × (l.at + size (before (cards_of (drop l.at l.deck))) ≡ size (before (cards_of l.deck))))

abbrev pub decreases-loop-at : goal.decreases-loop-at
decreases-loop-at l = length l.deck - l.at
