-- `cards_fields::deck::card_at` meets its contract. The loop's invariant: the card that is asked for is the one at
-- `left` of those from `at` on. Assumes nothing.
use Prim.Native.Nat.{◌+◌}
use mathlib.Core.Path.{sym, ◌∙◌}
use native.Mathlib.Omega.{arith}
use lib.ListN.{take, drop}
use Rattle.cards_fields.proofs.DeckLaws.{found, part-is, lines-done, card-none, card-here, card-later}
use Rattle.cards_fields.proofs.deck.card_at.Goals as goal

pub overflow_add-end : goal.overflow_add-end
overflow_add-end c =
    let f = found c.args.text.now c.loop-at.at c.loop-at-test.true c.card_len-len.result c.card_len-len.ensures in
    omega arith

pub returns-then-end-text : goal.returns-then-end-text
returns-then-end-text c =
    let f = found c.args.text.now c.loop-at.at c.loop-at-test.true c.card_len-len.result c.card_len-len.ensures in
    sym (card-none c.args.text.now c.loop-at.at c.loop-at.left (f.ends (omega arith))) ∙ c.loop-at.invariant.1

pub returns-then-left-eq0 : goal.returns-then-left-eq0
returns-then-left-eq0 c =
    let f = found c.args.text.now c.loop-at.at c.loop-at-test.true c.card_len-len.result c.card_len-len.ensures in
    part-is c.args.text.now c.loop-at.at c.card_len-len.result
    ∙ sym (card-here c.args.text.now c.loop-at.at c.loop-at.left (take c.card_len-len.result (drop c.loop-at.at c.args.text.now))
    (c.loop-at.at + c.card_len-len.result + 1) (f.goes (omega arith)) c.if-left-eq0.true)
    ∙ c.loop-at.invariant.1

pub overflow_add-at : goal.overflow_add-at
overflow_add-at c =
    let f = found c.args.text.now c.loop-at.at c.loop-at-test.true c.card_len-len.result c.card_len-len.ensures in
    omega arith

pub loop-at-smaller : goal.loop-at-smaller
loop-at-smaller c =
    let f = found c.args.text.now c.loop-at.at c.loop-at-test.true c.card_len-len.result c.card_len-len.ensures in
    omega arith

pub loop-at-preserved : goal.loop-at-preserved
loop-at-preserved c =
    let f = found c.args.text.now c.loop-at.at c.loop-at-test.true c.card_len-len.result c.card_len-len.ensures in (
      omega arith,
      sym (card-later c.args.text.now c.loop-at.at c.loop-at.left (take c.card_len-len.result (drop c.loop-at.at c.args.text.now))
          (c.loop-at.at + c.card_len-len.result + 1) (f.goes (omega arith)) c.if-left-eq0.false)
          ∙ c.loop-at.invariant.1,
    )

pub returns : goal.returns
returns c =
    sym (card-none c.args.text.now c.loop-at.at c.loop-at.left (lines-done c.args.text.now c.loop-at.at c.loop-at-test.false))
    ∙ c.loop-at.invariant.1

pub slice_bounds-result-end-then-left-eq0 : goal.slice_bounds-result-end-then-left-eq0
slice_bounds-result-end-then-left-eq0 c =
    let f = found c.args.text.now c.loop-at.at c.loop-at-test.true c.card_len-len.result c.card_len-len.ensures in
    omega arith
