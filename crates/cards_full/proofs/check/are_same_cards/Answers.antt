-- `cards_full::check::are_same_cards` meets its contract. The loop's invariant: all are the same exactly if those from k
-- on are. Assumes nothing.
use mathlib.Core.Path.{refl, sym, ◌∙◌}
use native.Mathlib.Omega.{arith}
use Rattle.cards_further.proofs.Fourteen.{fourteen}
use Rattle.cards_full.proofs.FurtherPut.{same-other, same-on, same-done}
use Rattle.cards_full.proofs.check.are_same_cards.Goals as goal

pub loop-k-init : goal.loop-k-init
loop-k-init c = refl

pub returns-then-not-is_same_card : goal.returns-then-not-is_same_card
returns-then-not-is_same_card c =
    let a = fourteen c.args.f _ c.well_formed.0 in
    let b = fourteen c.args.g _ c.well_formed.1.0 in
    sym (same-other c.args.f.cards c.args.g.cards c.loop-k.k (omega (arith, c.loop-k-test.true)) (omega (arith, c.loop-k-test.true))
    c.is_same_card.result c.is_same_card.ensures (c.if-not-is_same_card.true))
    ∙ c.loop-k.invariant

pub loop-k-preserved : goal.loop-k-preserved
loop-k-preserved c =
    let a = fourteen c.args.f _ c.well_formed.0 in
    let b = fourteen c.args.g _ c.well_formed.1.0 in
    sym (same-on c.args.f.cards c.args.g.cards c.loop-k.k (omega (arith, c.loop-k-test.true)) (omega (arith, c.loop-k-test.true))
    c.is_same_card.result c.is_same_card.ensures (c.if-not-is_same_card.false))
    ∙ c.loop-k.invariant

pub returns : goal.returns
returns c =
    let a = fourteen c.args.f _ c.well_formed.0 in
    let b = fourteen c.args.g _ c.well_formed.1.0 in
    sym (same-done c.args.f.cards c.args.g.cards c.loop-k.k (omega arith) (omega arith))
    ∙ c.loop-k.invariant
