-- `configuration_units::fresh` meets its contract. The loop's invariant is `Filled` of proofs/Filling.antt.
-- Assumes nothing.
use Rattle.configuration_units.proofs.Filling.{Filled}
use Rattle.configuration_units.proofs.fresh.Given as goal

abbrev pub invariant-loop-i : goal.invariant-loop-i
invariant-loop-i l = Filled l.is_down-items l.grid l.i
