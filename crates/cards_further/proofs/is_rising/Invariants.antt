-- `cards_further::is_rising` meets its contract. The loop's invariant: the digits rise exactly if those from `at` on do,
-- from `least` on. Assumes nothing.
use mathlib.Core.Path.{◌≡◌}
use Prim.Native.Nat.{◌-◌, ◌≤◌}
use lib.ListN.{length, drop}
use Rattle.cards_fields.specs.Deck.{cards_of}
use Rattle.cards_pm.specs.Pm.{rising}
use Rattle.cards_further.proofs.is_rising.Given as goal

abbrev pub invariant-loop-at : goal.invariant-loop-at
invariant-loop-at l = (l.at ≤ length l.rest) × (rising l.least (cards_of (drop l.at l.rest)) ≡ rising 0 (cards_of l.rest))

abbrev pub decreases-loop-at : goal.decreases-loop-at
decreases-loop-at l = length l.rest - l.at
