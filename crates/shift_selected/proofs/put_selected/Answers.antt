-- `shift_selected::put_selected` meets its contract: one piece after the other. Assumes nothing.
use Rattle.text.proofs.RoomLaws.{puts-then}
use Rattle.shift_selected.proofs.put_selected.Goals as goal

pub returns : goal.returns
returns c =
    puts-then c.put_bytes.ensures (puts-then c.put_decimal.ensures
    (puts-then c.put_byte.ensures
    (puts-then c.put_name.ensures (puts-then c.put_areas.ensures (puts-then c.put_kinds.ensures c.put_byte-2.ensures)))))
