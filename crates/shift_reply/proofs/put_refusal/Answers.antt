-- `shift_reply::put_refusal` meets its contract: the line of a refusal, or nothing. Assumes nothing.
use Rattle.text.proofs.RoomLaws.{puts-none}
use Rattle.shift_reply.proofs.put_refusal.Goals as goal

pub returns-in-Err : goal.returns-in-Err
returns-in-Err c = rw c.in-Err.is c.put_refused.ensures

pub returns-in_default : goal.returns-in_default
returns-in_default c = rw c.in_default.is (puts-none c.args.out.now)
