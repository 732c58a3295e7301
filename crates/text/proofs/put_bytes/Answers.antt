-- `text::put_bytes` meets its contract. The loop's invariant is `Going`: whoever writes the rest has written the
-- whole. Assumes nothing.
use native.Mathlib.Numerals.{add-one}
use lib.ListN.{drop_of_length-le}
use lib.Seq.{drop-cons}
use Rattle.text.proofs.RoomLaws.{same-room, turn, end}
use Rattle.text.proofs.put_bytes.Goals as goal

pub loop-b-preserved : goal.loop-b-preserved
loop-b-preserved c =
    turn (rw (add-one c.loop-b.b-index, ← drop-cons c.args.piece.now c.loop-b.b-index 0 c.loop-b-test.true) c.loop-b.invariant)
    c.put_byte-next.ensures

pub returns : goal.returns
returns c = end (rw (drop_of_length-le c.args.piece.now c.loop-b-test.false) at c.loop-b.invariant)

pub shape_of-room : goal.shape_of-room
shape_of-room c = same-room (returns c)
