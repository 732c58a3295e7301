-- `cards_report::begin` meets its contract. Assumes nothing.
use Rattle.cards_report.proofs.Pieces.{begins}
use Rattle.cards_report.proofs.begin.Goals as goal

pub returns-in-Ok : goal.returns-in-Ok
returns-in-Ok c =
    begins c.args.deck.now c.deck_end-end.ensures c.in-Ok.is

pub returns-in-Err : goal.returns-in-Err
returns-in-Err c =
    begins c.args.deck.now c.deck_end-end.ensures c.in-Err.is
