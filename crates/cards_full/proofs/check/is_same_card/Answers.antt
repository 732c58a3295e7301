-- `cards_full::check::is_same_card` meets its contract, the lengths first. Assumes nothing.
use mathlib.Core.Path.{◌∙◌}
use borrow.Author.Tests.{eq-eqb, ne_eqb}
use Rattle.cards_full.proofs.check.is_same_card.Goals as goal

pub returns-then-c-d : goal.returns-then-c-d
returns-then-c-d c =
    rw (ne_eqb c.args.c.len c.args.d.len c.if-c-d.true)

pub returns : goal.returns
returns c =
    c.is_same.ensures ∙ rw (eq-eqb c.args.c.len c.args.d.len c.if-c-d.false)
