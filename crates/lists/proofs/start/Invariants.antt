-- `lists::start` meets its contract: the rules' outcome of a start. The invariant: none of the entries passed can
-- start. Assumes nothing.
use Rattle.lists.proofs.Search.{Searching}
use Rattle.lists.proofs.start.Given as goal

abbrev pub invariant-loop-k : goal.invariant-loop-k
invariant-loop-k l = Searching l.row l.next.jobs l.channel.0 l.next.list.entries l.end l.k l.found
