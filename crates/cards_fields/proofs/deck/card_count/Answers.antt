-- `cards_fields::deck::card_count` meets its contract. The loop's invariant: the cards passed and those from `at` on
-- are all the cards. Assumes nothing.
use Prim.Native.Nat.{ℕ}
use mathlib.Core.Path.{ap}
use mathlib.Core.List.{List}
use native.Mathlib.Omega.{arith}
use lib.ListN.{length}
use Rattle.cards_fields.proofs.DeckLaws.{found, lines-done}
use Rattle.cards_fields.proofs.deck.card_count.Goals as goal

pub returns-then-len-text : goal.returns-then-len-text
returns-then-len-text c =
    let f = found c.args.text.now c.loop-at.at c.loop-at-test.true c.card_len-len.result c.card_len-len.ensures in
    omega (arith, ap (length {A = List ℕ}) (f.ends (omega arith)), c.loop-at.invariant.1)

pub overflow_add-at : goal.overflow_add-at
overflow_add-at c =
    let f = found c.args.text.now c.loop-at.at c.loop-at-test.true c.card_len-len.result c.card_len-len.ensures in
    omega arith

pub overflow_add-at-in-loop-at : goal.overflow_add-at-in-loop-at
overflow_add-at-in-loop-at c =
    let f = found c.args.text.now c.loop-at.at c.loop-at-test.true c.card_len-len.result c.card_len-len.ensures in
    omega arith

pub loop-at-smaller : goal.loop-at-smaller
loop-at-smaller c =
    let f = found c.args.text.now c.loop-at.at c.loop-at-test.true c.card_len-len.result c.card_len-len.ensures in
    omega arith

pub loop-at-preserved : goal.loop-at-preserved
loop-at-preserved c =
    let f = found c.args.text.now c.loop-at.at c.loop-at-test.true c.card_len-len.result c.card_len-len.ensures in
    omega (arith, ap (length {A = List ℕ}) (f.goes (omega arith)), c.loop-at.invariant.1)

pub returns : goal.returns
returns c =
    omega (arith, ap (length {A = List ℕ}) (lines-done c.args.text.now c.loop-at.at c.loop-at-test.false), c.loop-at.invariant.1)
