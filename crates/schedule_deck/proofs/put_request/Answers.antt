-- `schedule_deck::put_request` meets its contract. Assumes nothing.
use Rattle.text.proofs.RoomLaws.{puts-then}
use Rattle.schedule_deck.proofs.put_request.Goals as goal

pub returns : goal.returns
returns c =
    puts-then c.put_name.ensures (puts-then c.put_byte.ensures (puts-then c.put_priority.ensures c.put_byte-2.ensures))
