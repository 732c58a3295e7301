-- `schedule_deck::enter_deck` meets its contract. Assumes nothing.
use Rattle.schedule_deck.proofs.InTurn.{part-long, good-entered, refused-entered}
use borrow.Author.Rules.{rules}
use Rattle.schedule_deck.proofs.enter_deck.Goals as goal

pub slice_bounds-put_entered-end : goal.slice_bounds-put_entered-end
slice_bounds-put_entered-end c =
    part-long c.args.deck.now c.deck_end.ensures c.in-Ok.n c.in-Ok.is

pub returns-in-Ok : goal.returns-in-Ok
returns-in-Ok c =
    good-entered c.args.deck.now c.deck_end.ensures c.in-Ok.n c.in-Ok.is (search rules) c.put_entered.ensures

pub returns-in-Err : goal.returns-in-Err
returns-in-Err c =
    refused-entered c.args.deck.now c.deck_end.ensures c.in-Err.refusal c.in-Err.is c.args.schedule c.args.out.now
