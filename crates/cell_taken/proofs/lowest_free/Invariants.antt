-- `cell_taken::lowest_free` meets its contract. The loop's invariant stands first; the lemmas of its turns are in
-- this folder's other files. Assumes nothing.
use Rattle.cell_taken.proofs.Loops.{Passed}
use Rattle.cell_taken.proofs.lowest_free.Given as goal

abbrev pub invariant-loop-i : goal.invariant-loop-i
invariant-loop-i l = Passed l.jobs l.i
