-- `cards_fields::parts::gathered` meets its contract. Assumes nothing.
use mathlib.Core.Path.{sym, ◌∙◌}
use native.Mathlib.Omega.{arith}
use lib.ListN.{get_or}
use Rattle.cards_fields.specs.Fields.{spaceless}
use Rattle.cards_fields.proofs.FieldLaws.{pushed-len, gathered}
use Rattle.cards_fields.proofs.PartLaws.{gather-step, gather-end}
use Rattle.cards_fields.proofs.parts.gathered.Goals as goal

pub loop-b-preserved : goal.loop-b-preserved
loop-b-preserved c = (
  rw c.with_byte-f.ensures (omega (arith, pushed-len c.loop-b.f (get_or c.args.s.now c.loop-b.b-index 0))),
  rw c.with_byte-f.ensures (gather-step c.args.s.now c.loop-b.b-index c.loop-b.f c.loop-b-test.true) ∙ c.loop-b.invariant.1,
)

pub returns : goal.returns
returns c =
    sym (gather-end c.args.s.now c.loop-b.b-index c.loop-b.f c.loop-b-test.false) ∙ c.loop-b.invariant.1 ∙ gathered (spaceless c.args.s.now)
