-- `cards_report::rest` meets its contract. Assumes nothing.
use Rattle.cards_report.proofs.Pieces.{part_none, part-past, part-long}
use native.Mathlib.Omega.{arith}
use Rattle.cards_report.proofs.rest.Goals as goal

pub returns-then-end-from : goal.returns-then-end-from
returns-then-end-from c =
    part_none c.args.deck.now c.args.p.from c.args.p.end c.if-end-from.true

pub returns-then-deck-from : goal.returns-then-deck-from
returns-then-deck-from c =
    part-past c.args.deck.now c.args.p.from c.args.p.end c.if-deck-from.true

pub returns-then-deck-end : goal.returns-then-deck-end
returns-then-deck-end c =
    part-long c.args.deck.now c.args.p.from c.args.p.end (omega (arith, c.if-deck-end.true))
