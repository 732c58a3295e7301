-- `keyboard_answers::put_error` meets its contract: one piece after the other. Assumes nothing.
use Rattle.text.proofs.RoomLaws.{puts-then}
use Rattle.keyboard_answers.proofs.put_error.Goals as goal

pub returns : goal.returns
returns c = puts-then c.put_byte.ensures (puts-then c.put_decimal.ensures c.put_bytes.ensures)
