-- `desk_show::seek` meets its contract: each group in turn, none before it has the ID. Assumes nothing.
use Prim.Native.Nat.{◌-◌}
use lib.ListN.{length}
use Rattle.desk_show.proofs.SeekLaws.{Seeking}
use Rattle.desk_show.proofs.seek.Given as goal

abbrev pub invariant-loop-from : goal.invariant-loop-from
invariant-loop-from l = Seeking l.id l.cards l.from

abbrev pub decreases-loop-from : goal.decreases-loop-from
decreases-loop-from l = length l.cards - l.from
