-- `shift_packets::put_answer` meets its contract: each answer has its line. Assumes nothing.
use Rattle.shift_packets.proofs.put_answer.Goals as goal

pub returns-in-Started : goal.returns-in-Started
returns-in-Started c = rw c.in-Started.is c.put_started.ensures

pub returns-in-Completed : goal.returns-in-Completed
returns-in-Completed c = rw c.in-Completed.is c.put_completed.ensures

pub returns-in-Refused : goal.returns-in-Refused
returns-in-Refused c = rw c.in-Refused.is c.put_refused.ensures
