-- `cell_selection::run_of` meets its contract. Assumes nothing.
use borrow.Author.Tests.{ne_eqb}
use mathlib.Core.Path.{refl}
use native.Mathlib.Omega.{arith}
use Rattle.cell_selection.proofs.run_of.Goals as goal

pub returns-then-count-eq0 : goal.returns-then-count-eq0
returns-then-count-eq0 c = rw c.if-count-eq0.true refl

pub overflow_cast-result : goal.overflow_cast-result
overflow_cast-result c = omega (arith, c.requires c.if-count-eq0.false)

pub returns : goal.returns
returns c = rw (ne_eqb c.args.count 0 c.if-count-eq0.false) refl
