-- `answer_pieces::put_no` meets its contract: one piece after the other. Assumes nothing.
use Rattle.text.proofs.RoomLaws.{puts-then}
use Rattle.answer_pieces.proofs.put_no.Goals as goal

pub returns : goal.returns
returns c =
    puts-then c.put_bytes.ensures (rw c.number_of.ensures at c.put_decimal.ensures)
