-- `text::room::Room::put_decimal` ends: the measure is n. Assumes nothing.
use Rattle.text.proofs.room.Room.+put_decimal.Given as goal

abbrev pub decreases-put_decimal : goal.decreases-put_decimal
decreases-put_decimal l = l.n
