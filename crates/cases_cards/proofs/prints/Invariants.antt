-- `cases_cards::prints` ends: the turns that are left grow fewer.
use Rattle.cases_cards.proofs.prints.Given as goal

abbrev pub decreases-loop-left : goal.decreases-loop-left
decreases-loop-left l = l.left
