-- `cards_further::held` meets its contract. The loop's invariant: the cards held and those from `at` on are all. Assumes
-- nothing.
use Prim.Native.Nat.{◌-◌, ◌≤◌}
use lib.ListN.{length, drop}
use Rattle.numbers.specs.Limits.{most_further}
use Rattle.cards_fields.specs.Deck.{cards_of}
use Rattle.cards_further.specs.Further.{canonicals}
use Rattle.cards_further.proofs.FurtherLaws.{Holding}
use Rattle.cards_further.proofs.held.Given as goal

abbrev pub invariant-loop-at : goal.invariant-loop-at
invariant-loop-at l =
    ((l.at ≤ length l.rest) × (l.count ≤ most_further)) × Holding l.cards l.count (canonicals (cards_of (drop l.at l.rest))) (canonicals (cards_of l.rest))

abbrev pub decreases-loop-at : goal.decreases-loop-at
decreases-loop-at l = length l.rest - l.at
