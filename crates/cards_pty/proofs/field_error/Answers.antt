-- `cards_pty::field_error` meets its contract, one law for each way out. Assumes nothing.
use native.Mathlib.Omega.{arith}
use Rattle.std.proofs.lemmas.Bool.Decides.{nat_tests}
use Rattle.cards_pty.specs.Pty.{rules}
use Rattle.cards_pty.proofs.PtyLaws.{none-empty, none-long, lengths-at}
use Rattle.cards_pty.proofs.field_error.Goals as goal

pub returns-then-t-eq0 : goal.returns-then-t-eq0
returns-then-t-eq0 c = grind (arith, nat_tests, none-empty)

pub returns-then-k-gt13 : goal.returns-then-k-gt13
returns-then-k-gt13 c = grind (arith, nat_tests, none-long)

pub returns-then-t-least : goal.returns-then-t-least
unfolding rules
returns-then-t-least c =
    let l = lengths-at c.args.k in
    grind (arith, nat_tests)

pub returns-then-is_right : goal.returns-then-is_right
unfolding rules
returns-then-is_right c =
    let l = lengths-at c.args.k in
    grind (arith, nat_tests)

pub returns : goal.returns
unfolding rules
returns c =
    let l = lengths-at c.args.k in
    grind (arith, nat_tests)
