-- `schedule_deck::put_report` meets its contract. Assumes nothing.
use Rattle.cards_fields.specs.Deck.{cards_of, groups_of}
use Rattle.schedule_deck.proofs.InTurn.{report-put}
use Rattle.schedule_deck.proofs.put_report.Goals as goal

pub returns : goal.returns
returns c =
    let w = report-put (groups_of (cards_of c.args.part.now)) c.empty.ensures c.begin.ensures c.put_groups-progress.ensures c.put_schedule.ensures
    c.put_last.ensures in
    w.written
