-- `text::room::Room::put_decimal` meets its contract: the digits of n / 10, where there are any, and then the last one.
-- Assumes nothing.
use Rattle.text.proofs.RoomLaws.{puts-then}
use Rattle.text.proofs.Tens.{one-digit, more-digits}
use Rattle.text.proofs.room.Room.+put_decimal.Goals as goal

pub returns-then-n-lt10 : goal.returns-then-n-lt10
returns-then-n-lt10 t c = rw (one-digit c.args.n c.if-n-lt10.true) c.put_byte.ensures

pub returns : goal.returns
returns t c = rw (more-digits c.args.n c.if-n-lt10.false) (puts-then c.put_decimal.ensures c.put_byte-2.ensures)
