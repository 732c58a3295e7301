-- `cards_writing::check::limit_at` meets its contract, test by test. Assumes nothing.
use borrow.Author.Tests.{eq-eqb, ne_eqb}
use Rattle.cards_writing.proofs.check.limit_at.Goals as goal

pub returns-then-k-eq2 : goal.returns-then-k-eq2
returns-then-k-eq2 c = rw (eq-eqb c.args.k 2 c.if-k-eq2.true)

pub returns : goal.returns
returns c = rw (ne_eqb c.args.k 2 c.if-k-eq2.false)
