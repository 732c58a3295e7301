-- `board_units::put_held` meets its contract: the word, then the place. Assumes nothing.
use Rattle.text.proofs.RoomLaws.{puts-then}
use Rattle.board_units.proofs.put_held.Goals as goal

pub returns : goal.returns
returns c = puts-then c.put_bytes.ensures c.put_decimal.ensures
