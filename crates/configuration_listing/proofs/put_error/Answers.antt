-- `configuration_listing::put_error` meets its contract: the words, the refusal's number, the line and the line's end,
-- one after the other. Assumes nothing.
use Rattle.text.proofs.RoomLaws.{puts-then}
use Rattle.configuration_listing.proofs.put_error.Goals as goal

pub returns : goal.returns
returns c =
    puts-then c.put_bytes.ensures (puts-then (rw c.number_of.ensures at c.put_decimal.ensures)
    (puts-then c.put_bytes-2.ensures (puts-then c.put_decimal-2.ensures c.put_byte.ensures)))
