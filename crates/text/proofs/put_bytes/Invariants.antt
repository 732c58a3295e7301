-- `text::put_bytes` meets its contract. The loop's invariant is `Going`: whoever writes the rest has written the
-- whole. Assumes nothing.
use lib.ListN.{drop}
use Rattle.text.proofs.RoomLaws.{Going}
use Rattle.text.proofs.put_bytes.Given as goal

abbrev pub invariant-loop-b : goal.invariant-loop-b
invariant-loop-b l = Going l.initial.room l.at l.piece l.room l.next (drop l.b-index l.piece)
