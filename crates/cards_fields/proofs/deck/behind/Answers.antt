-- `cards_fields::deck::behind` meets its contract. The loop's invariant: what the first cards take is what was passed and
-- what `left` of the cards from `at` on take. Assumes nothing.
use Prim.Native.Nat.{ℕ, ◌+◌}
use mathlib.Core.Path.{◌≡◌, ap, ◌∙◌}
use native.Mathlib.Omega.{arith}
use lib.ListN.{take, drop}
use Rattle.cards_fields.specs.Deck.{cards_of, size}
use Rattle.cards_fields.proofs.FieldLaws.{rest-is}
use Rattle.cards_fields.proofs.DeckLaws.{found, lines-done, front-none, front-done, front-more}
use Rattle.cards_fields.proofs.deck.behind.Goals as goal

pub returns-then-left-eq0 : goal.returns-then-left-eq0
returns-then-left-eq0 c =
    let e : c.loop-at.at ≡ size (take c.args.k (cards_of c.args.text.now)) =
    omega (arith, c.loop-at.invariant.1, front-done c.args.text.now c.loop-at.at c.loop-at.left c.if-left-eq0.true) in
    rest-is c.args.text.now c.loop-at.at ∙ ap (λ (n : ℕ). drop n c.args.text.now) e

pub overflow_add-end : goal.overflow_add-end
overflow_add-end c =
    let f = found c.args.text.now c.loop-at.at c.loop-at-test.true c.card_len-len.result c.card_len-len.ensures in
    omega arith

pub returns-then-end-text : goal.returns-then-end-text
returns-then-end-text c =
    let f = found c.args.text.now c.loop-at.at c.loop-at-test.true c.card_len-len.result c.card_len-len.ensures in
    let e : c.loop-at.at ≡ size (take c.args.k (cards_of c.args.text.now)) =
    omega (arith, c.loop-at.invariant.1, front-none c.args.text.now c.loop-at.at c.loop-at.left (f.ends (omega arith))) in
    rest-is c.args.text.now c.loop-at.at ∙ ap (λ (n : ℕ). drop n c.args.text.now) e

pub overflow_add-at : goal.overflow_add-at
overflow_add-at c =
    let f = found c.args.text.now c.loop-at.at c.loop-at-test.true c.card_len-len.result c.card_len-len.ensures in
    omega arith

pub loop-at-smaller : goal.loop-at-smaller
loop-at-smaller c =
    let f = found c.args.text.now c.loop-at.at c.loop-at-test.true c.card_len-len.result c.card_len-len.ensures in
    omega arith

pub loop-at-preserved : goal.loop-at-preserved
loop-at-preserved c =
    let f = found c.args.text.now c.loop-at.at c.loop-at-test.true c.card_len-len.result c.card_len-len.ensures in
    let m = front-more c.args.text.now c.loop-at.at c.loop-at.left (take c.card_len-len.result (drop c.loop-at.at c.args.text.now))
    (c.loop-at.at + c.card_len-len.result + 1) (f.goes (omega arith)) c.if-left-eq0.false in
    let l = f.long in
    (omega arith, omega (arith, c.loop-at.invariant.1))

pub returns : goal.returns
returns c =
    let e : c.loop-at.at ≡ size (take c.args.k (cards_of c.args.text.now)) =
    omega (
      arith,
      c.loop-at.invariant.1,
      front-none c.args.text.now c.loop-at.at c.loop-at.left (lines-done c.args.text.now c.loop-at.at c.loop-at-test.false),
    ) in
    rest-is c.args.text.now c.loop-at.at ∙ ap (λ (n : ℕ). drop n c.args.text.now) e
