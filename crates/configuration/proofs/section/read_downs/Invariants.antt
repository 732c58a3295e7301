-- `configuration::section::read_downs` meets its contract. The loop's invariant is `At` of proofs/Turns.antt. Assumes
-- nothing.
use mathlib.Core.Path.{◌≡◌}
use lib.ListN.{length}
use Rattle.channels.specs.Channels.{no_down}
use Rattle.configuration.proofs.AnySection.{down_section}
use Rattle.configuration.proofs.Turns.{At}
use Rattle.configuration.proofs.section.read_downs.Given as goal

abbrev pub invariant-loop-line : goal.invariant-loop-line
invariant-loop-line l =
    (length l.of ≡ 256) × At (down_section l.channels) l.s l.count l.first l.start (record { next = 0; of = no_down }) l.line l.at
    (record { next = l.next; of = l.of })
