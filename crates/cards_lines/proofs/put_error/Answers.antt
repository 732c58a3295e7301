-- `cards_lines::put_error` meets its contract. Assumes nothing.
use Rattle.text.proofs.RoomLaws.{puts-then}
use Rattle.cards_lines.proofs.put_error.Goals as goal

pub returns : goal.returns
returns c =
    puts-then c.put_bytes.ensures (puts-then c.put_name.ensures
    (puts-then c.put_bytes-2.ensures (puts-then (rw c.number_of.ensures at c.put_decimal.ensures) c.put_byte.ensures)))
