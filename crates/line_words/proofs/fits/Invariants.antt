-- `line_words::fits` meets its contract. The loop's invariant: the words passed fit, so those from `at` and `on` on
-- tell. Assumes nothing.
use Prim.Native.Nat.{◌≤◌, ◌-◌}
use mathlib.Core.Path.{◌≡◌}
use lib.ListN.{length, drop}
use Rattle.line_words.specs.Forms.{words_of, fitting}
use Rattle.line_words.proofs.fits.Given as goal

abbrev pub invariant-loop-at : goal.invariant-loop-at
invariant-loop-at l =
    ((l.at ≤ length l.line) × (l.on ≤ length l.form))
    × (fitting (words_of (drop l.on l.form)) (words_of (drop l.at l.line)) ≡ fitting (words_of l.form) (words_of l.line))

abbrev pub decreases-loop-at : goal.decreases-loop-at
decreases-loop-at l = length l.line - l.at
