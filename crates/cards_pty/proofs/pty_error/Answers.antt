-- `cards_pty::pty_error` meets its contract, one law for each way out. Assumes nothing.
use native.Mathlib.Omega.{arith}
use Rattle.std.proofs.lemmas.Bool.Decides.{nat_tests}
use Rattle.cards_pty.proofs.PtyLaws.{not-pty, pty-malformed, pty-many, pty-fields}
use Rattle.cards_pty.proofs.pty_error.Goals as goal

pub returns-then-not-field_is : goal.returns-then-not-field_is
returns-then-not-field_is c = grind (arith, nat_tests, not-pty)

pub returns-then-is_malformed : goal.returns-then-is_malformed
returns-then-is_malformed c = grind (arith, nat_tests, pty-malformed, pty-many)

pub returns : goal.returns
returns c = grind (arith, nat_tests, pty-fields)
