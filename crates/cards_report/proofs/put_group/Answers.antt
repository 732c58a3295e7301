-- `cards_report::put_group` meets its contract. Assumes nothing.
use Rattle.cards_fields.specs.Deck.{cards_of}
use Rattle.cards_report.proofs.Bounds.{group-by}
use Rattle.cards_report.proofs.put_group.Goals as goal

pub returns-in-Ok : goal.returns-in-Ok
returns-in-Ok c =
    group-by (cards_of c.args.group.now) c.args.shown c.read_full-reading.ensures c.in-Ok.is c.put_good.ensures

pub returns-in-Err : goal.returns-in-Err
returns-in-Err c =
    group-by (cards_of c.args.group.now) c.args.shown c.read_full-reading.ensures c.in-Err.is c.put_error.ensures
