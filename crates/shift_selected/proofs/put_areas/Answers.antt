-- `shift_selected::put_areas` meets its contract: one piece after the other. Assumes nothing.
use Rattle.text.proofs.RoomLaws.{puts-then}
use Rattle.shift_selected.proofs.put_areas.Goals as goal

pub returns : goal.returns
returns c =
    puts-then c.put_run.ensures (puts-then c.put_run-2.ensures c.put_run-3.ensures)
