-- `cards_full::put::are_short` meets its contract. The loop's invariant: all are short exactly if those from i on are.
-- Assumes nothing.
use Prim.Native.Nat.{ℕ}
use mathlib.Core.Path.{refl, sym, ap, ◌∙◌}
use mathlib.Core.List.{List}
use native.Mathlib.Omega.{arith}
use Rattle.cards_further.proofs.Fourteen.{fourteen, within-cards, the-texts}
use Rattle.cards_full.specs.Full.{behind_id, short}
use Rattle.cards_full.proofs.FurtherPut.{short-long, short_on, short-end}
use Rattle.cards_full.proofs.put.are_short.Goals as goal

pub loop-i-init : goal.loop-i-init
loop-i-init c = λ id e. refl

pub offset_bounds-cards-i : goal.offset_bounds-cards-i
offset_bounds-cards-i c =
    let l = fourteen c.args.further _ c.well_formed.1.0 in
    omega (arith, l, (within-cards c.args.further c.count_of-n.result c.count_of-n.ensures), c.loop-i-test.true)

pub bounds-cards-i : goal.bounds-cards-i
bounds-cards-i c =
    let l = fourteen c.args.further _ c.well_formed.1.0 in
    omega (arith, l, (within-cards c.args.further c.count_of-n.result c.count_of-n.ensures), c.loop-i-test.true)

pub returns-then-before-len_of : goal.returns-then-before-len_of
returns-then-before-len_of c =
    λ id e. sym (short-long id c.args.further.cards c.count_of-n.result (within-cards c.args.further c.count_of-n.result c.count_of-n.ensures)
    c.loop-i.i c.args.before c.len_of.result (sym e) c.len_of.ensures c.loop-i-test.true c.requires c.if-before-len_of.true)
    ∙ c.loop-i.invariant id e ∙ ap (λ (x : List (List ℕ)). short (behind_id id x)) (the-texts c.args.further c.count_of-n.result c.count_of-n.ensures)

pub loop-i-preserved : goal.loop-i-preserved
loop-i-preserved c =
    λ id e. sym (short_on id c.args.further.cards c.count_of-n.result (within-cards c.args.further c.count_of-n.result c.count_of-n.ensures)
    c.loop-i.i c.args.before c.len_of.result (sym e) c.len_of.ensures c.loop-i-test.true c.requires c.if-before-len_of.false)
    ∙ c.loop-i.invariant id e

pub returns : goal.returns
returns c =
    λ id e. sym (short-end id c.args.further.cards c.count_of-n.result (within-cards c.args.further c.count_of-n.result c.count_of-n.ensures)
    c.loop-i.i (omega arith))
    ∙ c.loop-i.invariant id e ∙ ap (λ (x : List (List ℕ)). short (behind_id id x)) (the-texts c.args.further c.count_of-n.result c.count_of-n.ensures)
