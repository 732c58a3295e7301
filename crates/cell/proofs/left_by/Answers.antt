-- `cell::left_by` meets its contract. Assumes nothing.
use Rattle.cell.proofs.left_by.Goals as goal

pub returns-in-AfterNormal : goal.returns-in-AfterNormal
returns-in-AfterNormal c = rw c.in-AfterNormal.is c.returned.ensures

pub returns-in-AfterError : goal.returns-in-AfterError
returns-in-AfterError c = rw c.in-AfterError.is c.returned-in-AfterError.ensures
