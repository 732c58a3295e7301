-- `shift_answers::put_status_word` meets its contract: the word of each status, an ended one's with its code. Assumes
-- nothing.
use Rattle.text.proofs.RoomLaws.{puts-then}
use Rattle.shift_answers.proofs.put_status_word.Goals as goal

pub returns-in-Blank : goal.returns-in-Blank
returns-in-Blank c = rw c.in-Blank.is c.put_bytes.ensures

pub returns-in-Listed : goal.returns-in-Listed
returns-in-Listed c = rw c.in-Listed.is c.put_bytes-in-Listed.ensures

pub returns-in-InProgress : goal.returns-in-InProgress
returns-in-InProgress c = rw c.in-InProgress.is c.put_bytes-in-InProgress.ensures

pub returns-in-Stopping : goal.returns-in-Stopping
returns-in-Stopping c = rw c.in-Stopping.is c.put_bytes-in-Stopping.ensures

pub returns-in-Ended : goal.returns-in-Ended
returns-in-Ended c =
    rw c.in-Ended.is (puts-then c.put_bytes-in-Ended.ensures c.put_octal.ensures)
