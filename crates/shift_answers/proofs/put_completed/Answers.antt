-- `shift_answers::put_completed` meets its contract: one piece after the other. Assumes nothing.
use Rattle.text.proofs.RoomLaws.{puts-then}
use Rattle.shift_answers.proofs.put_completed.Goals as goal

pub returns : goal.returns
returns c =
    puts-then c.put_bytes.ensures (puts-then c.put_packet.ensures c.put_byte.ensures)
