-- `cards_pty::precedence_of` meets its contract: no text is 63, else it is what the digits write. Assumes nothing.
use native.Mathlib.Omega.{arith}
use mathlib.Core.Path.{◌∙◌}
use borrow.Author.Tests.{ne_eqb}
use Rattle.words.proofs.WordLaws.{number_short}
use Rattle.cards_pty.proofs.precedence_of.Goals as goal

pub returns : goal.returns
returns c = rw (ne_eqb _ 0 c.if-p-eq0.false) (c.number.ensures ∙ number_short c.args.p.now (omega arith))
