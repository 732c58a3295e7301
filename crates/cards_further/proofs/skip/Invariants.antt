-- `cards_further::skip` meets its contract. The loop's invariant: what is left behind the cards in front is what is left
-- of the cards from `at` on. Assumes nothing.
use mathlib.Core.Path.{◌≡◌}
use mathlib.Core.Bool.{Bool}
use mathlib.Core.List.{List}
use Prim.Native.Nat.{ℕ, ◌-◌, ◌≤◌}
use lib.ListN.{length, drop}
use Rattle.std.specs.Borrow.{Bor}
use Rattle.cards_fields.specs.Deck.{cards_of}
use Rattle.cards_further.specs.Together.{past}
use Rattle.cards_further.proofs.skip.Given as goal

abbrev pub invariant-loop-at : goal.invariant-loop-at
invariant-loop-at g l =
    (l.at ≤ length l.rest) × ((p : List ℕ → Bool) → ((card : Bor (List ℕ)) (answer : Bool) → goal.F-post g l.test card answer → answer ≡ p card.now)
    → past l.want p (cards_of (drop l.at l.rest)) ≡ past l.want p (cards_of l.rest))

abbrev pub decreases-loop-at : goal.decreases-loop-at
decreases-loop-at g l = length l.rest - l.at
