-- `shift_packets::put_status` meets its contract. Assumes nothing.
use Rattle.shift_packets.proofs.put_status.Goals as goal

pub returns-in-Ok : goal.returns-in-Ok
returns-in-Ok c = rw c.in-Ok.is c.put_status.ensures

pub returns-in-Err : goal.returns-in-Err
returns-in-Err c = rw c.in-Err.is c.put_refused.ensures
