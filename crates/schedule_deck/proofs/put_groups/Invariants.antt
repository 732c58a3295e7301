-- `schedule_deck::put_groups` meets its contract. Assumes nothing.
use Prim.Native.Nat.{◌-◌}
use lib.ListN.{length}
use Rattle.schedule_list.specs.InSchedule.{in_schedule}
use Rattle.schedule_entering.specs.Outlines.{Outlines}
use Rattle.schedule_deck.proofs.InTurn.{AtGroups}
use Rattle.schedule_deck.proofs.put_groups.Given as goal

abbrev pub invariant-loop-from : goal.invariant-loop-from
invariant-loop-from l =
    AtGroups l.part l.initial.out (record { schedule = l.initial.schedule; shown = l.initial.shown; last = l.initial.last }) l.out
    (record { schedule = l.schedule; shown = l.shown; last = l.last }) l.from
    × Outlines (in_schedule l.schedule) l.outline

abbrev pub decreases-loop-from : goal.decreases-loop-from
decreases-loop-from l = length l.part - l.from
