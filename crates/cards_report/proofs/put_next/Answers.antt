-- `cards_report::put_next` meets its contract: the first group of what is left, in turn. Assumes nothing.
use native.Mathlib.Omega.{arith}
use Rattle.cards_report.proofs.Pieces.{end-prints, group-within, group-prints}
use borrow.Author.Rules.{rules}
use Rattle.cards_report.proofs.put_next.Goals as goal

pub returns-then-n-eq0 : goal.returns-then-n-eq0
returns-then-n-eq0 c =
    end-prints c.args.deck.now c.args.p c.rest.ensures c.first_group-group.ensures c.requires c.if-n-eq0.true (search rules)
    c.put_bytes.ensures.written c.over-printing.ensures

pub overflow_add-printing : goal.overflow_add-printing
overflow_add-printing c =
    omega (arith, group-within c.args.deck.now c.args.p c.rest.ensures c.first_group-group.ensures c.if-n-eq0.false)

pub returns : goal.returns
returns c =
    group-prints c.args.deck.now c.args.p c.rest.ensures c.first_group-group.ensures c.if-n-eq0.false c.requires (search rules) c.card_at.ensures
    c.shown_by-shown.ensures (search rules) c.put_group.ensures.written
