-- `cards_pty::is_right` meets its contract: the table's row for each arm. Assumes nothing.
use Rattle.cards_pty.specs.Pty.{rules}
use Rattle.cards_pty.proofs.is_right.Goals as goal

pub returns-in-2 : goal.returns-in-2
unfolding rules
returns-in-2 c = rw c.in-2.is c.all_of-in-2.ensures

pub returns-in-11 : goal.returns-in-11
unfolding rules
returns-in-11 c = rw c.in-11.is c.all_of-in-11.ensures
