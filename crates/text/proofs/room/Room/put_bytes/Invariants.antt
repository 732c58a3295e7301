-- `text::room::Room::put_bytes` meets its contract. The loop's invariant: the first bytes of the piece are put.
-- Assumes nothing.
use lib.ListN.{take}
use Rattle.text.specs.Room.{Puts}
use Rattle.text.proofs.room.Room.put_bytes.Given as goal

abbrev pub invariant-loop-b : goal.invariant-loop-b
invariant-loop-b l = Puts l.initial.self (take l.b-index l.piece) l.self
