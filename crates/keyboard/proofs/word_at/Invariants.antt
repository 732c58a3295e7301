-- `keyboard::word_at` meets its contract. The loop's invariant: the word that is asked for is the one at `left` of
-- those from `at` on. Assumes nothing.
use Prim.Native.Nat.{◌≤◌, ◌-◌}
use mathlib.Core.Path.{◌≡◌}
use mathlib.Core.List.{[]}
use lib.ListN.{length, get_or}
use Rattle.keyboard.proofs.MessageLaws.{from}
use Rattle.keyboard.specs.Messages.{message_words}
use Rattle.keyboard.proofs.word_at.Given as goal

abbrev pub invariant-loop-k : goal.invariant-loop-k
invariant-loop-k l = (l.at ≤ length l.message) × (get_or (from l.message l.at) l.left [] ≡ get_or (message_words l.message) l.k [])

abbrev pub decreases-loop-k : goal.decreases-loop-k
decreases-loop-k l = length l.message - l.at
