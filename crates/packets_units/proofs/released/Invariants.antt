-- `packets_units::released` meets its contract. The invariant: the units passed are changed, the others as they
-- were. Assumes nothing.
use Prim.Native.Nat.{ℕ}
use Rattle.units.specs.declared.Unit.{Unit}
use Rattle.units.proofs.EachUnit.{Passed}
use Rattle.packets.specs.State.{release}
use Rattle.packets_units.proofs.released.Given as goal

abbrev pub invariant-loop-i : goal.invariant-loop-i
invariant-loop-i l = Passed (λ (c u : ℕ) (v : Unit). release l.j v) l.grid l.next.of l.i
