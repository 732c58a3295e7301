-- `cards_fields::deck::group_len` meets its contract. The loop's invariant: the first group is the cards passed and,
-- of those from `at` on, the first group. Assumes nothing.
use Prim.Native.Nat.{ℕ, ◌+◌}
use mathlib.Core.Path.{sym, ap, ◌∙◌}
use mathlib.Core.List.{List}
use native.Mathlib.Omega.{arith}
use lib.ListN.{take, drop}
use Rattle.cards_fields.specs.Deck.{cards_of, opens}
use Rattle.cards_fields.proofs.FieldLaws.{rest-is}
use Rattle.cards_fields.proofs.DeckLaws.{found, lines-done, group-here, group-later, no-group}
use Rattle.cards_fields.proofs.deck.group_len.Goals as goal

pub overflow_add-end : goal.overflow_add-end
overflow_add-end c =
    let f = found c.args.rest.now c.loop-at.at c.loop-at-test.true c.card_len-len.result c.card_len-len.ensures in
    omega arith

pub returns-then-end-rest : goal.returns-then-end-rest
returns-then-end-rest c =
    let f = found c.args.rest.now c.loop-at.at c.loop-at-test.true c.card_len-len.result c.card_len-len.ensures in
    (omega (arith, no-group c.args.rest.now c.loop-at.at (f.ends (omega arith)), c.loop-at.invariant.1), omega arith)

pub overflow_add-at : goal.overflow_add-at
overflow_add-at c =
    let f = found c.args.rest.now c.loop-at.at c.loop-at-test.true c.card_len-len.result c.card_len-len.ensures in
    omega arith

pub slice_bounds-opens_group-count : goal.slice_bounds-opens_group-count
slice_bounds-opens_group-count c =
    let f = found c.args.rest.now c.loop-at.at c.loop-at-test.true c.card_len-len.result c.card_len-len.ensures in
    omega arith

pub returns-then-opens_group : goal.returns-then-opens_group
returns-then-opens_group c =
    let f = found c.args.rest.now c.loop-at.at c.loop-at-test.true c.card_len-len.result c.card_len-len.ensures in
    let o = sym (ap (λ (l : List ℕ). opens (cards_of l)) (rest-is c.args.rest.now (c.loop-at.at + c.card_len-len.result + 1)))
    ∙ sym c.opens_group.ensures ∙ c.if-opens_group.true in
    let l = f.long in
    let g = group-here c.args.rest.now c.loop-at.at (take c.card_len-len.result (drop c.loop-at.at c.args.rest.now))
    (c.loop-at.at + c.card_len-len.result + 1) (f.goes (omega arith)) o in
    (omega arith, omega arith)

pub loop-at-smaller : goal.loop-at-smaller
loop-at-smaller c =
    let f = found c.args.rest.now c.loop-at.at c.loop-at-test.true c.card_len-len.result c.card_len-len.ensures in
    omega arith

pub loop-at-preserved : goal.loop-at-preserved
loop-at-preserved c =
    let f = found c.args.rest.now c.loop-at.at c.loop-at-test.true c.card_len-len.result c.card_len-len.ensures in
    let o = sym (ap (λ (l : List ℕ). opens (cards_of l)) (rest-is c.args.rest.now (c.loop-at.at + c.card_len-len.result + 1)))
    ∙ sym c.opens_group.ensures ∙ c.if-opens_group.false in
    let l = f.long in
    let g = group-later c.args.rest.now c.loop-at.at (take c.card_len-len.result (drop c.loop-at.at c.args.rest.now))
    (c.loop-at.at + c.card_len-len.result + 1) (f.goes (omega arith)) o in
    (omega arith, omega arith)

pub returns : goal.returns
returns c = (
  omega (arith, no-group c.args.rest.now c.loop-at.at (lines-done c.args.rest.now c.loop-at.at c.loop-at-test.false), c.loop-at.invariant.1),
  omega arith,
)

pub slice_bounds-opens_group-start : goal.slice_bounds-opens_group-start
slice_bounds-opens_group-start c =
    let f = found c.args.rest.now c.loop-at.at c.loop-at-test.true c.card_len-len.result c.card_len-len.ensures in
    omega arith
