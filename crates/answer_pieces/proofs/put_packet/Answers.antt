-- `answer_pieces::put_packet` meets its contract: number, space, number. Assumes nothing.
use Rattle.text.proofs.RoomLaws.{puts-then}
use Rattle.answer_pieces.proofs.put_packet.Goals as goal

pub returns : goal.returns
returns c =
    puts-then c.put_decimal.ensures (puts-then c.put_byte.ensures c.put_decimal-2.ensures)
