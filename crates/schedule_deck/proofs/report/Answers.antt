-- `schedule_deck::report` meets its contract. Assumes nothing.
use Rattle.schedule_deck.proofs.InTurn.{part-long, good-text, refused-text}
use Rattle.schedule_deck.proofs.Bounds.{reported}
use borrow.Author.Rules.{rules}
use Rattle.schedule_deck.proofs.report.Goals as goal

pub slice_bounds-put_report-end : goal.slice_bounds-put_report-end
slice_bounds-put_report-end c =
    part-long c.args.deck.now c.deck_end.ensures c.in-Ok.n c.in-Ok.is

pub returns-in-Ok : goal.returns-in-Ok
returns-in-Ok c =
    reported (search rules) c.args.deck.now
    (rw (good-text c.args.deck.now c.deck_end.ensures c.in-Ok.n c.in-Ok.is) at c.put_report.ensures)

pub returns-in-Err : goal.returns-in-Err
returns-in-Err c =
    reported (search rules) c.args.deck.now
    (rw (refused-text c.args.deck.now c.deck_end.ensures c.in-Err.refusal c.in-Err.is) at c.put_refused.ensures.written)
