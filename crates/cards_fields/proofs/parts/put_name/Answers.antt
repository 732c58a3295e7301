-- `cards_fields::parts::put_name` meets its contract: a byte of the name is put unless it is a blank. Assumes nothing.
use Rattle.text.proofs.RoomLaws.{goes-start, goes-turn, goes-end}
use Rattle.cards_fields.proofs.PartLaws.{name-byte, name-blank, name-end}
use Rattle.cards_fields.proofs.parts.put_name.Goals.{then-b-ne32, else-b-ne32}
use Rattle.cards_fields.proofs.parts.put_name.Goals as goal

pub loop-b-init : goal.loop-b-init
loop-b-init c = goes-start _ _

pub loop-b-preserved : goal.loop-b-preserved
loop-b-preserved c = elim c.if-b-ne32.branch [
  | then-b-ne32 w ↦ rw w.room-is (
      goes-turn (rw (name-byte c.args.name.now c.loop-b.b-index c.loop-b-test.true w.if-b-ne32.true) at c.loop-b.invariant) w.put_byte.ensures
      )
  | else-b-ne32 w ↦ rw w.room-is (
      rw (name-blank c.args.name.now c.loop-b.b-index c.loop-b-test.true w.if-b-ne32.false) at c.loop-b.invariant
      )
]

pub returns : goal.returns
returns c = goes-end (rw (name-end c.args.name.now c.loop-b.b-index c.loop-b-test.false) at c.loop-b.invariant)
