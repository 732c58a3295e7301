-- `keyboard::small_value` meets its contract. The loop's invariant: n is the number of the first digits, at most 15.
-- Assumes nothing.
use Prim.Native.Nat.{◌≤◌}
use mathlib.Core.Path.{◌≡◌}
use lib.ListN.{drop}
use Rattle.words.specs.Words.{value, value_from}
use Rattle.keyboard.proofs.small_value.Given as goal

abbrev pub invariant-loop-b : goal.invariant-loop-b
invariant-loop-b l = (l.n ≤ 15) × (value_from l.n (drop l.b-index l.digits) ≡ value l.digits)
