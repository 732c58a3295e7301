-- `cards_writing::put::put_fac` meets its contract: the ID, the word FAC, and the entries. Assumes nothing.
use Rattle.text.proofs.RoomLaws.{puts-then}
use Rattle.cards_writing.specs.Writing.{fac_text}
use Rattle.cards_writing.proofs.put.put_fac.Goals as goal

pub returns : goal.returns
unfolding fac_text
returns c =
    puts-then c.put_name.ensures (puts-then c.put_bytes.ensures c.put_entries.ensures)
