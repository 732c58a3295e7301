-- `cell_selection::units_of` meets its contract. The loop's invariant is `Filled` of numbers. Assumes nothing.
use Prim.Native.Nat.{◌-◌}
use mathlib.Core.Bool.{false}
use lib.ListN.{get_or}
use Rattle.numbers.proofs.Stores.{Filled}
use Rattle.assign_heads.specs.Whose.{blank}
use Rattle.cell_selection.specs.Selecting.{is_taken}
use Rattle.cell_selection.proofs.units_of.Given as goal

abbrev pub invariant-loop-i : goal.invariant-loop-i
invariant-loop-i l = Filled (λ d. is_taken (get_or l.heads d blank)) false 256 l.initial.next l.next l.i

abbrev pub decreases-loop-i : goal.decreases-loop-i
decreases-loop-i l = 256 - l.i
