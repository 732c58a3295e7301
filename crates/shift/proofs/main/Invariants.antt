-- `shift::main` ends: the turns that are left grow fewer.
use Rattle.shift.proofs.main.Given as goal

abbrev pub decreases-loop-left : goal.decreases-loop-left
decreases-loop-left l = l.left
