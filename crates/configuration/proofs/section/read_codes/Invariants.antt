-- `configuration::section::read_codes` meets its contract. The loop's invariant is `At` of proofs/Turns.antt, and that
-- the word so far is below 2 ^ next, so that a code from there on adds its bit. Assumes nothing.
use Prim.Native.Nat.{◌^◌, ◌<◌, ◌≤◌}
use Rattle.channels.specs.Channels.{no_codes}
use Rattle.configuration.proofs.AnySection.{code_section}
use Rattle.configuration.proofs.Turns.{At}
use Rattle.configuration.proofs.section.read_codes.Given as goal

abbrev pub invariant-loop-line : goal.invariant-loop-line
invariant-loop-line l =
    ((l.of < 2 ^ l.next) × (l.next ≤ 64)) × At code_section l.s l.count l.first l.start (record { next = 0; of = no_codes }) l.line l.at
    (record { next = l.next; of = l.of })
