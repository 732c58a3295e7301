-- `board_jobs::put_job` meets its contract: one piece after the other. Assumes nothing.
use Rattle.text.proofs.RoomLaws.{puts-then}
use Rattle.board_jobs.proofs.put_job.Goals as goal

pub returns : goal.returns
returns c =
    puts-then c.put_bytes.ensures
    (puts-then c.put_decimal.ensures (puts-then c.put_byte.ensures (puts-then c.put_name.ensures c.put_bytes-2.ensures)))
