-- `line_words::word_at` meets its contract. The loop's invariant: the word that is asked for is the one at `left` of
-- those from `at` on. Assumes nothing.
use Prim.Native.Nat.{◌≤◌, ◌-◌}
use mathlib.Core.Path.{◌≡◌}
use mathlib.Core.List.{[]}
use lib.ListN.{length, drop, get_or}
use Rattle.line_words.specs.Forms.{words_of}
use Rattle.line_words.proofs.word_at.Given as goal

abbrev pub invariant-loop-left : goal.invariant-loop-left
invariant-loop-left l = (l.at ≤ length l.line) × (get_or (words_of (drop l.at l.line)) l.left [] ≡ get_or (words_of l.line) l.k [])

abbrev pub decreases-loop-left : goal.decreases-loop-left
decreases-loop-left l = length l.line - l.at
