-- `shift_answers::put_started` meets its contract: one piece after the other. Assumes nothing.
use Rattle.text.proofs.RoomLaws.{puts-then}
use Rattle.shift_answers.proofs.put_started.Goals as goal

pub returns : goal.returns
returns c =
    puts-then c.put_bytes.ensures (puts-then c.put_packet.ensures
    (puts-then c.put_byte.ensures (puts-then c.put_octal.ensures
    (puts-then c.put_byte-2.ensures (puts-then (rw c.number_at-number.ensures at c.put_decimal.ensures) c.put_byte-3.ensures)))))
