-- `line_words::value_of` meets its contract. The loop's invariant: n is the number of the first digits, below ten
-- to their count. Assumes nothing.
use Prim.Native.Nat.{◌<◌}
use mathlib.Core.Path.{◌≡◌}
use lib.ListN.{drop}
use Rattle.words.proofs.WordLaws.{tens}
use Rattle.line_words.specs.Forms.{value_in}
use Rattle.line_words.proofs.value_of.Given as goal

abbrev pub invariant-loop-b : goal.invariant-loop-b
invariant-loop-b l = (l.n < tens l.b-index) × (value_in l.base l.n (drop l.b-index l.word) ≡ value_in l.base 0 l.word)
