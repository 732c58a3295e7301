-- `configuration_listing::count_channel` meets its contract. The loop's invariant is `AtUnits` of
-- proofs/Counting.antt. Assumes nothing.
use mathlib.Core.Path.{ap, ◌∙◌}
use Rattle.channels.specs.Channels.{units_of}
use Rattle.configuration_units.specs.Fresh.{fresh_units}
use native.Mathlib.Omega.{arith}
use Rattle.configuration_listing.proofs.Counting.{units-start, units-turn, units-fits, units-end}
use Rattle.configuration_listing.proofs.count_channel.Goals as goal

pub loop-u-init : goal.loop-u-init
loop-u-init c = units-start c.units_of-n.result c.args.row

pub overflow_add-found : goal.overflow_add-found
overflow_add-found c = record { fits = omega (arith, units-fits c.loop-u.invariant c.count_unit-found.ensures) }

pub loop-u-preserved : goal.loop-u-preserved
loop-u-preserved c = units-turn c.loop-u.invariant c.count_unit-found.ensures c.loop-u-test.true

pub returns : goal.returns
returns c =
    units-end c.loop-u.invariant c.loop-u-test.false c.args.configuration (fresh_units c.args.configuration.down) c.args.channel
    (c.units_of-n.ensures ∙ ap units_of c.channel_at.ensures) c.requires
