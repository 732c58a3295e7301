-- `shift_hearing::hear` meets its contract: its lines so far are heard, and what is left of the piece grows shorter.
-- Assumes nothing.
use Prim.Native.Nat.{◌<◌, ◌-◌}
use lib.ListN.{length}
use Rattle.cell.specs.Calls.{cell_of}
use Rattle.shift_turns.specs.Turns.{shift_of}
use Rattle.shift_hearing.specs.Hearing.{standing, HearsSome}
use Rattle.shift_hearing.proofs.hear.Given as goal

abbrev pub invariant-loop-taken : goal.invariant-loop-taken
invariant-loop-taken l =
    HearsSome (standing (shift_of l.initial.phase (cell_of l.initial.schedule l.initial.lists)) l.len l.initial.line l.initial.room l.initial.answer) l.piece l.initial.out
    (standing (shift_of l.phase (cell_of l.schedule l.lists)) l.kept l.line l.room l.answer) l.taken l.at l.out
    × (length l.piece < 18446744073709551616)

abbrev pub decreases-loop-taken : goal.decreases-loop-taken
decreases-loop-taken l =
    length l.piece - l.taken
