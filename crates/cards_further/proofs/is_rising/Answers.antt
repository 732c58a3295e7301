-- `cards_further::is_rising` meets its contract. The loop's invariant: the digits rise exactly if those from `at` on do,
-- from `least` on. Assumes nothing.
use mathlib.Core.Path.{sym, ap, ◌∙◌}
use Prim.Native.Nat.{ℕ, ◌+◌}
use mathlib.Core.List.{List}
use native.Mathlib.Omega.{arith}
use lib.ListN.{take, drop}
use Rattle.cards_fields.specs.Deck.{cards_of}
use Rattle.cards_fields.proofs.DeckLaws.{found, part-is}
use mathlib.Core.Bool.{cond, ◌&&◌}
use lib.Dec.{ltb}
use Rattle.cards_pm.specs.Pm.{is_pm, digit_of, rising}
use Rattle.cards_further.proofs.FurtherLaws.{rising-low, rising-on}
use Rattle.cards_further.proofs.is_rising.Goals as goal

pub overflow_add-end : goal.overflow_add-end
overflow_add-end c =
    let f = found c.args.rest.now c.loop-at.at c.loop-at-test.true c.card_len-len.result c.card_len-len.ensures in
    omega arith

pub returns-then-end-rest : goal.returns-then-end-rest
returns-then-end-rest c =
    let f = found c.args.rest.now c.loop-at.at c.loop-at-test.true c.card_len-len.result c.card_len-len.ensures in
    sym (ap (rising c.loop-at.least) (f.ends (omega arith))) ∙ c.loop-at.invariant.1

pub slice_bounds-card-end : goal.slice_bounds-card-end
slice_bounds-card-end c =
    let f = found c.args.rest.now c.loop-at.at c.loop-at-test.true c.card_len-len.result c.card_len-len.ensures in
    omega arith

pub returns-then-is_low : goal.returns-then-is_low
returns-then-is_low c =
    let f = found c.args.rest.now c.loop-at.at c.loop-at-test.true c.card_len-len.result c.card_len-len.ensures in
    sym (ap (rising c.loop-at.least) (f.goes (omega arith))
    ∙ rising-low c.loop-at.least (take c.card_len-len.result (drop c.loop-at.at c.args.rest.now))
    (cards_of (drop (c.loop-at.at + c.card_len-len.result + 1) c.args.rest.now))
    (sym (ap (λ (x : List ℕ). is_pm x && ltb (digit_of x) c.loop-at.least) (part-is c.args.rest.now c.loop-at.at c.card_len-len.result))
    ∙ sym c.is_low.ensures ∙ c.if-is_low.true))
    ∙ c.loop-at.invariant.1

pub loop-at-preserved : goal.loop-at-preserved
loop-at-preserved c =
    let f = found c.args.rest.now c.loop-at.at c.loop-at-test.true c.card_len-len.result c.card_len-len.ensures in (
      omega arith,
      ap (λ (l : ℕ). rising l (cards_of (drop (c.loop-at.at + c.card_len-len.result + 1) c.args.rest.now)))
          (c.least_behind-least.ensures ∙ ap (λ (x : List ℕ). cond (is_pm x) (digit_of x + 1) c.loop-at.least)
          (part-is c.args.rest.now c.loop-at.at c.card_len-len.result))
          ∙ sym (ap (rising c.loop-at.least) (f.goes (omega arith))
          ∙ rising-on c.loop-at.least (take c.card_len-len.result (drop c.loop-at.at c.args.rest.now))
          (cards_of (drop (c.loop-at.at + c.card_len-len.result + 1) c.args.rest.now))
          (sym (ap (λ (x : List ℕ). is_pm x && ltb (digit_of x) c.loop-at.least) (part-is c.args.rest.now c.loop-at.at c.card_len-len.result))
          ∙ sym c.is_low.ensures ∙ c.if-is_low.false))
          ∙ c.loop-at.invariant.1,
    )
