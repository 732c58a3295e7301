-- `lists::fresh` meets its contract. Assumes nothing.
use Rattle.packets.specs.History.{fresh}
use Rattle.lists.proofs.fresh.Goals as goal

pub returns : goal.returns
unfolding fresh
returns c = rw (c.empty-jobs.ensures, c.empty-list.ensures)
