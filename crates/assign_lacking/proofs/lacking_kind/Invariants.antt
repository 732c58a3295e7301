-- `assign_lacking::lacking_kind` meets its contract: the kinds before one have their units, by the law of the first kind
-- that is lacking. Assumes nothing.
use Prim.Native.Nat.{ℕ, ◌-◌, ◌≤◌, ◌<◌}
use mathlib.Core.List.{[]}
use lib.ListN.{get_or}
use Rattle.numbers.specs.Kinds.{unit_kinds}
use Rattle.assign_channels.specs.Choice.{by_channel}
use Rattle.assign.specs.Assignment.{wants_of}
use Rattle.assign_lacking.specs.ByCounts.{Servable}
use Rattle.assign_lacking.proofs.lacking_kind.Given as goal

abbrev pub invariant-loop-order : goal.invariant-loop-order
invariant-loop-order l = (l.order ≤ unit_kinds) × ((j : ℕ) → j < l.order → Servable (get_or l.by_kind j (by_channel [])) (wants_of l.wanted j))
