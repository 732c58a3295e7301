-- `cell_selection::first_fit` meets its contract: the loop keeps that the candidates so far have no assignment, and
-- what the first of them lacks. Assumes nothing.
use Prim.Native.Nat.{◌-◌}
use lib.ListN.{take}
use Rattle.assign.specs.Assignment.{supply_of}
use Rattle.cell_selection.proofs.Walk.{Walked}
use Rattle.cell_selection.proofs.first_fit.Given as goal

abbrev pub invariant-loop-k : goal.invariant-loop-k
invariant-loop-k l =
    Walked (take l.n l.list) (supply_of l.units.of l.occupancy l.areas l.channels) l.so_far.lacking l.so_far.at l.k

abbrev pub decreases-loop-k : goal.decreases-loop-k
decreases-loop-k l = l.n - l.k
