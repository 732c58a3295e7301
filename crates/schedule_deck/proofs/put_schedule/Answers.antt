-- `schedule_deck::put_schedule` meets its contract: each turn puts a line. Assumes nothing.
use Rattle.std.proofs.Common.{arith}
use Rattle.text.proofs.RoomLaws.{goes-start, goes-end}
use Rattle.schedule_deck.proofs.Pieces.{lines-on, lines_end}
use Rattle.schedule_deck.proofs.put_schedule.Goals as goal

pub loop-entry-init : goal.loop-entry-init
loop-entry-init c = goes-start _ _

pub loop-entry-preserved : goal.loop-entry-preserved
loop-entry-preserved c =
    lines-on c.requests-requests.result.now c.loop-entry.entry-index _ (omega arith) c.loop-entry.invariant c.put_request.ensures

pub returns : goal.returns
returns c =
    rw (← c.requests-requests.ensures.same)
    (goes-end (rw (lines_end c.requests-requests.result.now c.loop-entry.entry-index (omega arith)) at c.loop-entry.invariant))
