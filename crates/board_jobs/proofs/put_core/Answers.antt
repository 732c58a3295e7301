-- `board_jobs::put_core` meets its contract: one piece after the other. Assumes nothing.
use Rattle.text.proofs.RoomLaws.{puts-then}
use Rattle.board_jobs.proofs.put_core.Goals as goal

pub returns : goal.returns
returns c =
    puts-then c.put_bytes.ensures (puts-then c.put_blocks.ensures c.put_byte.ensures)
