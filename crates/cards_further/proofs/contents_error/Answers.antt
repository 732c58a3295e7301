-- `cards_further::contents_error` meets its contract. The loop's invariant: the first error is that of the cards from `at`
-- on. Assumes nothing.
use mathlib.Core.Path.{sym, ap, ◌∙◌}
use Prim.Native.Nat.{ℕ, ◌+◌}
use mathlib.Core.List.{List}
use native.Mathlib.Omega.{arith}
use lib.ListN.{take, drop}
use Rattle.std.proofs.lemmas.Result.{err_from_is_err_and}
use Rattle.cards_fields.specs.Deck.{cards_of}
use Rattle.cards_fields.proofs.DeckLaws.{found, part-is}
use mathlib.Core.Bool.{Bool, ◌&&◌, ◌||◌}
use Rattle.cards_trn.specs.Trn.{is_trn, has_count}
use Rattle.cards_further.specs.Further.{content_error, contents_error}
use Rattle.cards_further.proofs.FurtherLaws.{content-wrong, content-on}
use Rattle.cards_further.proofs.contents_error.Goals as goal

pub overflow_add-end : goal.overflow_add-end
overflow_add-end c =
    let f = found c.args.rest.now c.loop-at.at c.loop-at-test.true c.card_len-len.result c.card_len-len.ensures in
    omega arith

pub returns-then-end-rest : goal.returns-then-end-rest
returns-then-end-rest c =
    let f = found c.args.rest.now c.loop-at.at c.loop-at-test.true c.card_len-len.result c.card_len-len.ensures in
    sym (ap (contents_error c.loop-at.counted) (f.ends (omega arith))) ∙ c.loop-at.invariant.1

pub slice_bounds-card-end : goal.slice_bounds-card-end
slice_bounds-card-end c =
    let f = found c.args.rest.now c.loop-at.at c.loop-at-test.true c.card_len-len.result c.card_len-len.ensures in
    omega arith

pub returns-in_err-content_error : goal.returns-in_err-content_error
returns-in_err-content_error c =
    let f = found c.args.rest.now c.loop-at.at c.loop-at-test.true c.card_len-len.result c.card_len-len.ensures in
    let p = err_from_is_err_and c.from_residual.result c.from_residual.ensures.1 in
    rw (p.1, p.2) (sym (ap (contents_error c.loop-at.counted) (f.goes (omega arith))
    ∙ content-wrong c.loop-at.counted (take c.card_len-len.result (drop c.loop-at.at c.args.rest.now))
    (cards_of (drop (c.loop-at.at + c.card_len-len.result + 1) c.args.rest.now)) c.content_error.result
    (c.content_error.ensures ∙ ap (content_error c.loop-at.counted) (part-is c.args.rest.now c.loop-at.at c.card_len-len.result))
    _ c.in_err-content_error.was)
    ∙ c.loop-at.invariant.1)

pub loop-at-preserved : goal.loop-at-preserved
loop-at-preserved c =
    let f = found c.args.rest.now c.loop-at.at c.loop-at-test.true c.card_len-len.result c.card_len-len.ensures in (
      omega arith,
      ap (λ (b : Bool). contents_error b (cards_of (drop (c.loop-at.at + c.card_len-len.result + 1) c.args.rest.now)))
          (c.is_counted-counted.ensures ∙ ap (λ (x : List ℕ). c.loop-at.counted || (is_trn x && has_count x))
          (part-is c.args.rest.now c.loop-at.at c.card_len-len.result))
          ∙ sym (ap (contents_error c.loop-at.counted) (f.goes (omega arith))
          ∙ content-on c.loop-at.counted (take c.card_len-len.result (drop c.loop-at.at c.args.rest.now))
          (cards_of (drop (c.loop-at.at + c.card_len-len.result + 1) c.args.rest.now)) c.content_error.result
          (c.content_error.ensures ∙ ap (content_error c.loop-at.counted) (part-is c.args.rest.now c.loop-at.at c.card_len-len.result))
          _ c.in_ok-content_error.was)
          ∙ c.loop-at.invariant.1,
    )
