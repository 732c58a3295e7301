-- `configuration::section::read_channels` meets its contract. The loop's invariant is `At` of proofs/Turns.antt.
-- Assumes nothing.
use mathlib.Core.Path.{◌≡◌}
use mathlib.Core.Bool.{false}
use lib.ListN.{length}
use Rattle.channels.specs.Channels.{no_channels}
use Rattle.configuration.proofs.AnySection.{channel_section}
use Rattle.configuration.proofs.Turns.{At}
use Rattle.configuration.proofs.section.read_channels.Given as goal

abbrev pub invariant-loop-line : goal.invariant-loop-line
invariant-loop-line l =
    (length l.of ≡ 16) × At channel_section l.s l.count 2 l.start (record { next = 0; drum = false; of = no_channels }) l.line l.at
    (record { next = l.next; drum = l.drum; of = l.of })
