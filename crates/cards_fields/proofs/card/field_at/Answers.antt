-- `cards_fields::card::field_at` meets its contract. Assumes nothing.
use mathlib.Core.Path.{sym, ap, ◌∙◌}
use native.Mathlib.Omega.{arith}
use lib.ListN.{get_or}
use Rattle.cards_fields.specs.Fields.{field}
use Rattle.cards_fields.proofs.FieldLaws.{added_all, pushed-len, gathered, field-period, field-comma, field_next, field_skip, field-byte, field_end}
use Rattle.cards_fields.proofs.card.field_at.Goals.{then-b-eq44+else-left-eq0, else-b-eq44+then-left-eq0-2, else-b-eq44+else-left-eq0-2}
use Rattle.cards_fields.proofs.card.field_at.Goals as goal

pub returns-then-b-eq46 : goal.returns-then-b-eq46
returns-then-b-eq46 c =
    sym (ap (added_all c.loop-b.f) (field-period c.args.card.now c.loop-b.b-index c.loop-b-test.true c.loop-b.left c.if-b-eq46.true))
    ∙ c.loop-b.invariant.1 ∙ gathered (field c.args.card.now c.args.k)

pub returns-then-left-eq0 : goal.returns-then-left-eq0
returns-then-left-eq0 c =
    sym (ap (added_all c.loop-b.f) (field-comma c.args.card.now c.loop-b.b-index c.loop-b-test.true c.loop-b.left c.if-b-eq44.true
    c.if-left-eq0.true))
    ∙ c.loop-b.invariant.1 ∙ gathered (field c.args.card.now c.args.k)

pub loop-b-preserved : goal.loop-b-preserved
loop-b-preserved c = elim c.if-b-eq44.branch [
  | then-b-eq44+else-left-eq0 w ↦ rw (w.f-is, w.left-is) (
    omega arith,
    sym (ap (added_all c.loop-b.f) (field_next c.args.card.now c.loop-b.b-index c.loop-b-test.true c.loop-b.left w.if-b-eq44.true
        w.if-left-eq0.false))
        ∙ c.loop-b.invariant.1,
  )
  | else-b-eq44+then-left-eq0-2 w ↦ rw (w.f-is, w.left-is, w.with_byte-f.ensures) (
    omega (arith, pushed-len c.loop-b.f (get_or c.args.card.now c.loop-b.b-index 0)),
    sym (field-byte c.args.card.now c.loop-b.b-index c.loop-b-test.true c.loop-b.f c.loop-b.left c.if-b-eq46.false
        w.if-b-eq44.false w.if-left-eq0-2.true)
        ∙ c.loop-b.invariant.1,
  )
  | else-b-eq44+else-left-eq0-2 w ↦ rw (w.f-is, w.left-is) (
    omega arith,
    sym (ap (added_all c.loop-b.f) (field_skip c.args.card.now c.loop-b.b-index c.loop-b-test.true c.loop-b.left c.if-b-eq46.false
        w.if-b-eq44.false w.if-left-eq0-2.false))
        ∙ c.loop-b.invariant.1,
  )
]

pub returns : goal.returns
returns c =
    sym (ap (added_all c.loop-b.f) (field_end c.args.card.now c.loop-b.b-index c.loop-b.left c.loop-b-test.false)) ∙ c.loop-b.invariant.1
    ∙ gathered (field c.args.card.now c.args.k)
