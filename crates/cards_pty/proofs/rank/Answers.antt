-- `cards_pty::rank` meets its contract: the tests that the code makes, put into the definition. Assumes nothing.
use Rattle.std.proofs.Common.{arith}
use Rattle.std.proofs.lemmas.Bool.Decides.{nat_tests}
use Rattle.cards_pty.specs.Pty.{ranked}
use Rattle.cards_pty.proofs.rank.Goals as goal

pub returns-then-not-is_letter : goal.returns-then-not-is_letter
unfolding ranked
returns-then-not-is_letter c = grind (arith, nat_tests)

pub returns-then-n-gt-LAST_PRECEDENCE : goal.returns-then-n-gt-LAST_PRECEDENCE
unfolding ranked
returns-then-n-gt-LAST_PRECEDENCE c = grind (arith, nat_tests)

pub returns : goal.returns
unfolding ranked
returns c = grind (arith, nat_tests)
