-- `assign_core::search` meets its contract. The loops' invariants: no pair before the one at hand fits. Assumes nothing.
use Prim.Native.Nat.{ℕ, ◌<◌}
use Rattle.assign_core.specs.Core.{Fits}
use Rattle.assign_core.proofs.search.Given as goal

abbrev pub invariant-loop-j : goal.invariant-loop-j
invariant-loop-j l = (b : ℕ) → b < l.j → Fits l.word l.ib l.db l.i b → ⊥

abbrev pub invariant-loop-i : goal.invariant-loop-i
invariant-loop-i l = (a : ℕ) → a < l.i → (b : ℕ) → Fits l.word l.ib l.db a b → ⊥
