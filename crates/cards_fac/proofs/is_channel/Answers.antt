-- `cards_fac::is_channel` meets its contract: the number is that of two digits. Assumes nothing.
use native.Mathlib.Omega.{arith}
use Rattle.std.proofs.lemmas.Bool.Decides.{nat_tests}
use Rattle.words.proofs.WordLaws.{number_short}
use Rattle.cards_fac.proofs.is_channel.Goals as goal

pub returns-then-all_of : goal.returns-then-all_of
returns-then-all_of c = let e = number_short c.args.t.now (omega arith) in grind (arith, nat_tests)
