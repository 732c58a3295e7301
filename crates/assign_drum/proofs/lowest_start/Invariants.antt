-- `assign_drum::lowest_start` meets its contract. The loop's invariant: no lower start fits. It ends since an area
-- that is in the way ends later. Assumes nothing.
use Rattle.numbers.specs.Limits.{lowest_address}
use Prim.Native.Nat.{ℕ, ◌≤◌, ◌<◌, ◌-◌, ◌^◌}
use Rattle.assign_drum.specs.Drum.{IsArea}
use Rattle.assign_drum.proofs.lowest_start.Given as goal

abbrev pub invariant-loop-s : goal.invariant-loop-s
invariant-loop-s l = ((1 ≤ l.n) × ((lowest_address ≤ l.s) × (l.s < 2 ^ 33))) × ((b : ℕ) → b < l.s → IsArea l.held l.size l.n b → ⊥)

abbrev pub decreases-loop-s : goal.decreases-loop-s
decreases-loop-s l = 2 ^ 33 - l.s
