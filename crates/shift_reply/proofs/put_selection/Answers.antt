-- `shift_reply::put_selection` meets its contract: the line of what is selected, or the refusal and what was lacking.
-- Assumes nothing.
use Rattle.text.proofs.RoomLaws.{puts-then}
use Rattle.shift_reply.proofs.put_selection.Goals as goal

pub returns-in-Ok : goal.returns-in-Ok
returns-in-Ok c = rw c.in-Ok.is c.put_selected.ensures

pub returns-in-Err : goal.returns-in-Err
returns-in-Err c =
    rw c.in-Err.is (puts-then c.put_no.ensures (puts-then c.put_lack.ensures c.put_byte.ensures))
