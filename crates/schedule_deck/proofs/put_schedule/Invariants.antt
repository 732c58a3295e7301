-- `schedule_deck::put_schedule` meets its contract: whoever puts the lines that are left has put them all. Assumes nothing.
use Rattle.std.proofs.Common.{drop}
use Rattle.text.proofs.RoomLaws.{Goes}
use Rattle.schedule_deck.specs.Report.{schedule_text}
use Rattle.schedule_deck.proofs.put_schedule.Given as goal

abbrev pub invariant-loop-entry : goal.invariant-loop-entry
invariant-loop-entry l = Goes l.initial.out (schedule_text l.requests) l.out (schedule_text (drop l.entry-index l.requests))
