-- `answer_pieces::put_span` meets its contract: number, hyphen, number. Assumes nothing.
use Rattle.text.proofs.RoomLaws.{puts-then}
use Rattle.answer_pieces.proofs.put_span.Goals as goal

pub returns : goal.returns
returns c =
    puts-then c.put_decimal.ensures (puts-then c.put_byte.ensures (rw c.last_of.ensures at c.put_decimal-2.ensures))
