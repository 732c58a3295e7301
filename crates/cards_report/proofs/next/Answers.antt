-- `cards_report::next` meets its contract. Assumes nothing.
use Rattle.cards_report.proofs.Pieces.{refused-prints, over-prints}
use borrow.Author.Rules.{rules}
use Rattle.cards_report.proofs.next.Goals as goal

pub returns-in-Refused : goal.returns-in-Refused
returns-in-Refused c =
    refused-prints c.args.deck.now c.args.printing (search rules) c.in-Refused.refusal c.in-Refused.is c.put_refused.ensures.written
    c.over-last.ensures

pub returns-in-Over : goal.returns-in-Over
returns-in-Over c =
    over-prints c.args.deck.now c.args.printing c.args.out.now c.in-Over.is c.over-last-in-Over.ensures
