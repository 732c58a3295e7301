-- `assign::without` meets its contract. Assumes nothing.
use Rattle.assign.proofs.without.Goals as goal

pub returns : goal.returns
returns c = rw c.nothing.ensures
