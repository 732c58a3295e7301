-- `cards_further::held` meets its contract. The loop's invariant: the cards held and those from `at` on are all. Assumes
-- nothing.
use Prim.Native.Nat.{ℕ, ◌+◌}
use mathlib.Core.Path.{sym, ap, subst, ◌∙◌}
use mathlib.Core.List.{List}
use native.Mathlib.Omega.{arith}
use lib.ListN.{drop}
use Rattle.cards_fields.specs.Deck.{cards_of}
use Rattle.cards_fields.proofs.DeckLaws.{found, part-is, lines-done}
use lib.ListN.{set}
use Rattle.cards_request.specs.declared.FurtherCard.{FurtherCard}
use Rattle.cards_request.specs.declared.Further.{Further}
use Rattle.cards_further.specs.Further.{canonical, canonicals, held_card}
use Rattle.cards_further.proofs.FurtherLaws.{Holding, hold-start, hold-turn, hold-end, hold-full}
use Rattle.cards_further.proofs.held.Goals as goal

pub loop-at-init : goal.loop-at-init
loop-at-init c = (
  (omega arith, omega arith),
  subst (λ (f : Further). Holding f.cards 0 (canonicals (cards_of c.args.rest.now)) (canonicals (cards_of c.args.rest.now)))
      (sym c.no_further-none.ensures) (hold-start (canonicals (cards_of c.args.rest.now))),
)

pub overflow_add-end : goal.overflow_add-end
overflow_add-end c =
    let f = found c.args.rest.now c.loop-at.at c.loop-at-test.true c.card_len-len.result c.card_len-len.ensures in
    omega arith

pub returns-then-end-rest : goal.returns-then-end-rest
returns-then-end-rest c =
    let f = found c.args.rest.now c.loop-at.at c.loop-at-test.true c.card_len-len.result c.card_len-len.ensures in
    hold-end c.loop-at.invariant.0.1 (subst
    (λ (l : List (List ℕ)). Holding c.loop-at.cards c.loop-at.count (canonicals l) (canonicals (cards_of c.args.rest.now)))
    (f.ends (omega arith)) c.loop-at.invariant.1)

pub returns-then-count-eq-MOST_FURTHER : goal.returns-then-count-eq-MOST_FURTHER
returns-then-count-eq-MOST_FURTHER c = hold-full c.if-count-eq-MOST_FURTHER.true c.loop-at.invariant.1

pub slice_bounds-held_card-end : goal.slice_bounds-held_card-end
slice_bounds-held_card-end c =
    let f = found c.args.rest.now c.loop-at.at c.loop-at-test.true c.card_len-len.result c.card_len-len.ensures in
    omega arith

pub loop-at-preserved : goal.loop-at-preserved
loop-at-preserved c =
    let f = found c.args.rest.now c.loop-at.at c.loop-at-test.true c.card_len-len.result c.card_len-len.ensures in (
      (omega arith, omega (arith, c.loop-at.invariant.0.1, c.if-count-eq-MOST_FURTHER.false)),
      subst (λ (x : FurtherCard). Holding (set c.loop-at.cards c.loop-at.count x) (c.loop-at.count + 1)
          (canonicals (cards_of (drop (c.loop-at.at + c.card_len-len.result + 1) c.args.rest.now))) (canonicals (cards_of c.args.rest.now)))
          (sym (c.held_card.ensures ∙ ap (λ (x : List ℕ). held_card (canonical x)) (part-is c.args.rest.now c.loop-at.at c.card_len-len.result)))
          (hold-turn (subst (λ (l : List (List ℕ)). Holding c.loop-at.cards c.loop-at.count (canonicals l) (canonicals (cards_of c.args.rest.now)))
          (f.goes (omega arith)) c.loop-at.invariant.1)),
    )

pub returns : goal.returns
returns c =
    hold-end c.loop-at.invariant.0.1 (subst
    (λ (l : List (List ℕ)). Holding c.loop-at.cards c.loop-at.count (canonicals l) (canonicals (cards_of c.args.rest.now)))
    (lines-done c.args.rest.now c.loop-at.at c.loop-at-test.false) c.loop-at.invariant.1)
