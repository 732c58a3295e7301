-- `words::value_of` meets its contract. The loop's invariant: n is the number of the first digits, and at most what
-- so many bytes of any value write. Assumes nothing.
use mathlib.Core.Path.{◌≡◌}
use Prim.Native.Nat.{◌≤◌}
use lib.ListN.{drop}
use Rattle.words.specs.Words.{value, value_from}
use Rattle.words.proofs.WordLaws.{cap}
use Rattle.words.proofs.value_of.Given as goal

abbrev pub invariant-loop-b : goal.invariant-loop-b
invariant-loop-b l = (l.n ≤ cap l.b-index) × (value_from l.n (drop l.b-index l.s) ≡ value l.s)
