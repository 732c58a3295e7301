-- `cell_taken::is_in_run` meets its contract. Assumes nothing.
use mathlib.Core.Path.{refl}
use native.Mathlib.Omega.{arith}
use borrow.Author.Tests.{lt-leb, le-leb}
use Rattle.cell_taken.proofs.is_in_run.Goals as goal

pub returns-then-b-start : goal.returns-then-b-start
returns-then-b-start c =
    rw (lt-leb c.args.run.start c.args.b c.if-b-start.true) refl

pub returns : goal.returns
returns c =
    rw (le-leb c.args.run.start c.args.b (omega arith)) refl
