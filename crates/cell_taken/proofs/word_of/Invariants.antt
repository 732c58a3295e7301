-- `cell_taken::word_of` meets its contract. The loop's invariant stands first; the lemmas of its turns are in this
-- folder's other files. Assumes nothing.
use Rattle.cell_taken.specs.Taken.{any_has}
use Rattle.cell_taken.proofs.Loops.{Worded}
use Rattle.cell_taken.proofs.word_of.Given as goal

abbrev pub invariant-loop-left : goal.invariant-loop-left
invariant-loop-left l = Worded (any_has l.held) l.word l.left

abbrev pub decreases-loop-left : goal.decreases-loop-left
decreases-loop-left l = l.left
