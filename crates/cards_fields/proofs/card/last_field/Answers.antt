-- `cards_fields::card::last_field` meets its contract. Assumes nothing.
use native.Mathlib.Omega.{arith}
use Rattle.cards_fields.proofs.FieldLaws.{count-period, count-comma, count-other, count-end}
use Rattle.cards_fields.proofs.card.last_field.Goals.{then-b-eq44, else-b-eq44}
use Rattle.cards_fields.proofs.card.last_field.Goals as goal

pub returns-then-b-eq46 : goal.returns-then-b-eq46
returns-then-b-eq46 c =
    omega (arith, count-period c.args.card.now c.loop-b.b-index c.loop-b-test.true c.if-b-eq46.true)

pub loop-b-preserved : goal.loop-b-preserved
loop-b-preserved c = elim c.if-b-eq44.branch [
  | then-b-eq44 w ↦ omega (arith, count-comma c.args.card.now c.loop-b.b-index c.loop-b-test.true w.if-b-eq44.true)
  | else-b-eq44 w ↦ omega (arith, count-other c.args.card.now c.loop-b.b-index c.loop-b-test.true c.if-b-eq46.false w.if-b-eq44.false)
]

pub returns : goal.returns
returns c = omega (arith, count-end c.args.card.now c.loop-b.b-index c.loop-b-test.false)
