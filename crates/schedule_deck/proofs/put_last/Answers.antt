-- `schedule_deck::put_last` meets its contract. Assumes nothing.
use Rattle.text.proofs.RoomLaws.{puts-then}
use Rattle.schedule_deck.proofs.put_last.Goals as goal

pub returns : goal.returns
returns c = puts-then c.put_name.ensures c.put_bytes.ensures
