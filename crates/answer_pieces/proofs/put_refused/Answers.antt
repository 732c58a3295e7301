-- `answer_pieces::put_refused` meets its contract: one piece after the other. Assumes nothing.
use Rattle.text.proofs.RoomLaws.{puts-then}
use Rattle.answer_pieces.proofs.put_refused.Goals as goal

pub returns : goal.returns
returns c = puts-then c.put_no.ensures c.put_byte.ensures
