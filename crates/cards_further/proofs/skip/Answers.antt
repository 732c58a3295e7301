-- `cards_further::skip` meets its contract. The loop's invariant: what is left behind the cards in front is what is left
-- of the cards from `at` on. Assumes nothing.
use mathlib.Core.Path.{sym, ap, ◌∙◌}
use Prim.Native.Nat.{◌+◌}
use native.Mathlib.Omega.{arith}
use lib.ListN.{take, drop}
use Rattle.cards_fields.proofs.DeckLaws.{found, part-is}
use Rattle.cards_further.proofs.FurtherLaws.{agree, differ, past-none, past-here, past-on}
use Rattle.cards_further.proofs.skip.Goals as goal

pub overflow_add-end : goal.overflow_add-end
overflow_add-end g c =
    let f = found c.args.rest.now c.loop-at.at c.loop-at-test.true c.card_len-len.result c.card_len-len.ensures in
    omega arith

pub returns-then-end-rest-clause-left : goal.returns-then-end-rest-clause-left
returns-then-end-rest-clause-left g c =
    let f = found c.args.rest.now c.loop-at.at c.loop-at-test.true c.card_len-len.result c.card_len-len.ensures in
    λ p h. past-none p c.args.want c.args.rest.now c.loop-at.at (f.ends (omega arith)) ∙ c.loop-at.invariant.1 p h

pub slice_bounds-test-end : goal.slice_bounds-test-end
slice_bounds-test-end g c =
    let f = found c.args.rest.now c.loop-at.at c.loop-at-test.true c.card_len-len.result c.card_len-len.ensures in
    omega arith

pub returns-then-test-want-clause-left : goal.returns-then-test-want-clause-left
returns-then-test-want-clause-left g c =
    let f = found c.args.rest.now c.loop-at.at c.loop-at-test.true c.card_len-len.result c.card_len-len.ensures in
    λ p h. past-here p c.args.want c.args.rest.now c.loop-at.at
    (take c.card_len-len.result (drop c.loop-at.at c.args.rest.now)) (c.loop-at.at + c.card_len-len.result + 1) (f.goes (omega arith))
    (λ e. differ c.test.result c.args.want c.if-test-want.true
    (h _ _ c.test.ensures ∙ ap p (part-is c.args.rest.now c.loop-at.at c.card_len-len.result) ∙ e))
    ∙ c.loop-at.invariant.1 p h

pub loop-at-preserved : goal.loop-at-preserved
loop-at-preserved g c =
    let f = found c.args.rest.now c.loop-at.at c.loop-at-test.true c.card_len-len.result c.card_len-len.ensures in (
      omega arith,
      λ p h. past-on p c.args.want c.args.rest.now c.loop-at.at
          (take c.card_len-len.result (drop c.loop-at.at c.args.rest.now)) (c.loop-at.at + c.card_len-len.result + 1) (f.goes (omega arith))
          (sym (ap p (part-is c.args.rest.now c.loop-at.at c.card_len-len.result)) ∙ sym (h _ _ c.test.ensures)
          ∙ agree c.test.result c.args.want c.if-test-want.false)
          ∙ c.loop-at.invariant.1 p h,
    )
