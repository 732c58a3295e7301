-- `shift_selected::put_part` meets its contract. Assumes nothing.
use Rattle.shift_selected.proofs.put_part.Goals as goal

pub returns-in-Core : goal.returns-in-Core
returns-in-Core c = rw c.in-Core.is c.put_bytes.ensures

pub returns-in-Drum : goal.returns-in-Drum
returns-in-Drum c = rw c.in-Drum.is c.put_bytes-in-Drum.ensures

pub returns-in-Units : goal.returns-in-Units
returns-in-Units c =
    rw c.in-Units.is (rw c.code_of-code.ensures at c.put_bytes-in-Units.ensures)
