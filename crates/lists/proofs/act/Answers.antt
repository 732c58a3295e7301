-- `lists::act` meets its contract: each call is the one of its function. Assumes nothing.
use Rattle.lists.proofs.act.Goals as goal

pub returns-in-Submit : goal.returns-in-Submit
returns-in-Submit c = rw c.in-Submit.is c.submit.ensures

pub returns-in-Start : goal.returns-in-Start
returns-in-Start c = rw c.in-Start.is c.start.ensures

pub returns-in-Complete : goal.returns-in-Complete
returns-in-Complete c = rw c.in-Complete.is c.complete.ensures

pub returns-in-End : goal.returns-in-End
returns-in-End c = rw c.in-End.is c.end.ensures

pub returns-in-Return : goal.returns-in-Return
returns-in-Return c = rw c.in-Return.is c.return_unit.ensures

pub returns-in-Mark : goal.returns-in-Mark
returns-in-Mark c = rw c.in-Mark.is c.mark.ensures
