-- `assign_channels::lowest` meets its contract. The loop's invariant: the search that is left gives the whole
-- answer. Assumes nothing.
use Prim.Native.Nat.{◌≤◌, ◌-◌}
use mathlib.Core.Path.{◌≡◌}
use lib.ListN.{drop}
use Rattle.assign_channels.specs.Greedy.{lowest_from}
use Rattle.assign_channels.proofs.lowest.Given as goal

abbrev pub invariant-loop-c : goal.invariant-loop-c
invariant-loop-c l =
    (l.c ≤ 16) × (lowest_from l.there l.n (drop l.from.0 l.wants.0) (16 - l.c) l.c ≡ lowest_from l.there l.n (drop l.from.0 l.wants.0) 16 0)
