-- `cards_fields::deck::group_len` meets its contract. The loop's invariant: the first group is the cards passed and,
-- of those from `at` on, the first group. Assumes nothing.
use Prim.Native.Nat.{◌+◌, ◌≤◌, ◌-◌}
use mathlib.Core.Path.{◌≡◌}
use lib.ListN.{length, drop}
use Rattle.cards_fields.specs.Deck.{group_size}
use Rattle.cards_fields.proofs.deck.group_len.Given as goal

abbrev pub invariant-loop-at : goal.invariant-loop-at
invariant-loop-at l = (l.at ≤ length l.rest) × (l.at + group_size (drop l.at l.rest) ≡ group_size l.rest)

abbrev pub decreases-loop-at : goal.decreases-loop-at
decreases-loop-at l = length l.rest - l.at
