-- `text::room::Room::put_bytes` meets its contract: a byte more of the piece is put. Assumes nothing.
use Rattle.std.proofs.lemmas.List.{take_more}
use Rattle.text.proofs.RoomLaws.{puts-then}
use Rattle.text.proofs.room.Room.put_bytes.Goals as goal

pub loop-b-preserved : goal.loop-b-preserved
loop-b-preserved c =
    rw (take_more c.args.piece.now c.loop-b.b-index 0 c.loop-b-test.true) (puts-then c.loop-b.invariant c.put_byte.ensures)
