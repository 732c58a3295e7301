-- `packets_units::taken` meets its contract. The invariant: the units passed are changed, the others as they were.
-- Assumes nothing.
use Prim.Native.Nat.{ℕ}
use Rattle.units.specs.declared.Unit.{Unit}
use Rattle.units.proofs.EachUnit.{Passed}
use Rattle.packets.specs.State.{take_unit}
use Rattle.packets_units.specs.Handed.{wanted_in}
use Rattle.packets_units.proofs.taken.Given as goal

abbrev pub invariant-loop-i : goal.invariant-loop-i
invariant-loop-i l = Passed (λ (c u : ℕ) (v : Unit). take_unit l.j (wanted_in l.is_wanted-items c u) v) l.grid l.next.of l.i
