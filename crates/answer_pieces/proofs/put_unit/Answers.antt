-- `answer_pieces::put_unit` meets its contract: number, slash, number. Assumes nothing.
use Rattle.text.proofs.RoomLaws.{puts-then}
use Rattle.answer_pieces.proofs.put_unit.Goals as goal

pub returns : goal.returns
returns c =
    puts-then c.put_two.ensures (puts-then c.put_byte.ensures c.put_two-2.ensures)
