-- `configuration_listing::count_channel` meets its contract. The loop's invariant is `AtUnits` of
-- proofs/Counting.antt. Assumes nothing.
use Rattle.configuration_listing.proofs.Counting.{AtUnits}
use Rattle.configuration_listing.proofs.count_channel.Given as goal

abbrev pub invariant-loop-u : goal.invariant-loop-u
invariant-loop-u l = AtUnits l.n l.unit-items l.found l.u
