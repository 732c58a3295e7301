-- `cases::run` meets its contract, and ends: the arguments that are left grow fewer. Assumes nothing.
use mathlib.Core.Path.{◌≡◌}
use mathlib.Core.Bool.{false}
use mathlib.Core.List.{List}
use Prim.Native.Nat.{ℕ, ◌-◌}
use Rattle.cases.proofs.run.Given as goal

abbrev pub invariant-loop-tally : goal.invariant-loop-tally
invariant-loop-tally g l = ((given due : List ℕ) → g.C.Cases.right given due ≡ false) → l.tally.good ≡ 0

abbrev pub decreases-loop-tally : goal.decreases-loop-tally
decreases-loop-tally g l = l.tally.count - l.tally.at
