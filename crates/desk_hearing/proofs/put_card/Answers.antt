-- `desk_hearing::put_card` meets its contract: the card, and then its LF. Assumes nothing.
use Rattle.text.proofs.RoomLaws.{and_then}
use Rattle.desk_hearing.proofs.put_card.Goals as goal

pub returns : goal.returns
returns c = and_then c.put_bytes-end.ensures c.put_byte.ensures
