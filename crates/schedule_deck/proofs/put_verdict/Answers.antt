-- `schedule_deck::put_verdict` meets its contract. Assumes nothing.
use Rattle.text.proofs.RoomLaws.{puts-none}
use Rattle.schedule_deck.proofs.put_verdict.Goals as goal

pub returns-in-Ok : goal.returns-in-Ok
returns-in-Ok c = rw c.in-Ok.is (puts-none _)

pub returns-in-Err : goal.returns-in-Err
returns-in-Err c = rw c.in-Err.is c.put_error.ensures
