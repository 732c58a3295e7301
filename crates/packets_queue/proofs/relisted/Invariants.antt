-- `packets_queue::relisted` meets its contract. The invariant: what stays of the entries passed stands first, and
-- zeros follow. Assumes nothing.
use Rattle.packets.specs.State.{is_kept}
use Rattle.packets_queue.proofs.Relist.{Relisting}
use Rattle.packets_queue.proofs.relisted.Given as goal

abbrev pub invariant-loop-e : goal.invariant-loop-e
invariant-loop-e l = Relisting (is_kept l.j l.job.packets) l.e-items l.entries l.kept l.e-index
