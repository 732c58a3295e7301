-- `text::put_two` meets its contract: one digit, and then the other. Assumes nothing.
use Rattle.text.proofs.RoomLaws.{and_then}
use Rattle.text.proofs.put_two.Goals as goal

pub returns : goal.returns
returns c = and_then c.put_byte-next.ensures c.put_byte.ensures
