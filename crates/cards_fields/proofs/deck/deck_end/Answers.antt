-- `cards_fields::deck::deck_end` meets its contract. The loop's invariant: no card passed is the termination card, so
-- whether there is one, and where, is said by the cards from `at` on. Assumes nothing.
use Prim.Native.Nat.{◌+◌}
use mathlib.Core.Path.{sym, ap, ◌∙◌}
use native.Mathlib.Omega.{arith}
use lib.ListN.{take, drop}
use Rattle.cards_fields.specs.Deck.{is_termination}
use Rattle.cards_fields.proofs.DeckLaws.{found, part-is, lines-done, not-ended, end-here, end_later, deck-long, deck-open, deck-ends}
use Rattle.cards_fields.proofs.deck.deck_end.Goals as goal

pub returns-then-deck-gt-DECK_BYTES : goal.returns-then-deck-gt-DECK_BYTES
returns-then-deck-gt-DECK_BYTES c = sym (deck-long c.args.deck.now c.if-deck-gt-DECK_BYTES.true)

pub overflow_add-end : goal.overflow_add-end
overflow_add-end c =
    let f = found c.args.deck.now c.loop-at.at c.loop-at-test.true c.card_len-len.result c.card_len-len.ensures in
    omega arith

pub returns-then-end-deck : goal.returns-then-end-deck
returns-then-end-deck c =
    let f = found c.args.deck.now c.loop-at.at c.loop-at-test.true c.card_len-len.result c.card_len-len.ensures in
    sym (deck-open c.args.deck.now (omega arith) (sym c.loop-at.invariant.1.0 ∙ not-ended c.args.deck.now c.loop-at.at (f.ends (omega arith))))

pub returns-then-is_termination : goal.returns-then-is_termination
returns-then-is_termination c =
    let f = found c.args.deck.now c.loop-at.at c.loop-at-test.true c.card_len-len.result c.card_len-len.ensures in
    let t = sym (ap is_termination (part-is c.args.deck.now c.loop-at.at c.card_len-len.result)) ∙ sym c.is_termination.ensures
    ∙ c.if-is_termination.true in
    let e = end-here c.args.deck.now c.loop-at.at (take c.card_len-len.result (drop c.loop-at.at c.args.deck.now))
    (c.loop-at.at + c.card_len-len.result + 1) (f.goes (omega arith)) t in
    deck-ends c.args.deck.now c.loop-at.at (omega arith) (sym c.loop-at.invariant.1.0 ∙ e.0) (omega arith)

pub overflow_add-at : goal.overflow_add-at
overflow_add-at c =
    let f = found c.args.deck.now c.loop-at.at c.loop-at-test.true c.card_len-len.result c.card_len-len.ensures in
    omega arith

pub loop-at-smaller : goal.loop-at-smaller
loop-at-smaller c =
    let f = found c.args.deck.now c.loop-at.at c.loop-at-test.true c.card_len-len.result c.card_len-len.ensures in
    omega arith

pub loop-at-preserved : goal.loop-at-preserved
loop-at-preserved c =
    let f = found c.args.deck.now c.loop-at.at c.loop-at-test.true c.card_len-len.result c.card_len-len.ensures in
    let t = sym (ap is_termination (part-is c.args.deck.now c.loop-at.at c.card_len-len.result)) ∙ sym c.is_termination.ensures
    ∙ c.if-is_termination.false in
    let e = end_later c.args.deck.now c.loop-at.at (take c.card_len-len.result (drop c.loop-at.at c.args.deck.now))
    (c.loop-at.at + c.card_len-len.result + 1) (f.goes (omega arith)) t in
    let l = f.long in
    (omega arith, (sym e.0 ∙ c.loop-at.invariant.1.0, omega arith))

pub returns : goal.returns
returns c =
    sym (deck-open c.args.deck.now (omega arith)
    (sym c.loop-at.invariant.1.0 ∙ not-ended c.args.deck.now c.loop-at.at (lines-done c.args.deck.now c.loop-at.at c.loop-at-test.false)))

pub slice_bounds-is_termination-end : goal.slice_bounds-is_termination-end
slice_bounds-is_termination-end c =
    let f = found c.args.deck.now c.loop-at.at c.loop-at-test.true c.card_len-len.result c.card_len-len.ensures in
    omega arith
