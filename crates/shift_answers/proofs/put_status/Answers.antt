-- `shift_answers::put_status` meets its contract: one piece after the other. Assumes nothing.
use Rattle.text.proofs.RoomLaws.{puts-then}
use Rattle.shift_answers.proofs.put_status.Goals as goal

pub returns : goal.returns
returns c =
    puts-then c.put_bytes.ensures (puts-then c.put_status_word.ensures c.put_byte.ensures)
