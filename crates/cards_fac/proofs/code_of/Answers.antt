-- `cards_fac::code_of` meets its contract: the letters that a text begins with, looked for among the codes. Assumes nothing.
use mathlib.Core.Path.{sym, ◌∙◌}
use Rattle.cards_fac.proofs.EntryLaws.{code-of-long, code-of-found}
use Rattle.cards_fac.specs.Fac.{codes}
use Rattle.cards_fac.proofs.code_of.Goals as goal

pub returns-then-n-gt2 : goal.returns-then-n-gt2
returns-then-n-gt2 c = sym (code-of-long c.args.t.now c.leading_of-n.result c.leading_of-n.ensures c.if-n-gt2.true)

pub returns : goal.returns
unfolding codes
returns c = c.ok_or.ensures.value ∙ code-of-found c.args.t.now c.leading_of-n.result c.leading_of-n.ensures c.if-n-gt2.false c.code_index.result c.code_index.ensures
