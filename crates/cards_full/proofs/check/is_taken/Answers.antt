-- `cards_full::check::is_taken` meets its contract: the further cards, then the request. Assumes nothing.
use mathlib.Core.Path.{sym, ◌∙◌}
use native.Mathlib.Omega.{arith}
use Rattle.cards_full.specs.Full.{takes_full}
use Rattle.cards_full.proofs.FurtherPut.{few-taken}
use Rattle.cards_full.proofs.check.is_taken.Goals as goal

pub returns-then-not-is_taken_further : goal.returns-then-not-is_taken_further
unfolding takes_full
returns-then-not-is_taken_further c = rw (sym c.is_taken_further.ensures ∙ c.if-not-is_taken_further.true)

pub overflow_add-further : goal.overflow_add-further
overflow_add-further c =
    omega (arith, few-taken c.args.full.further (sym c.is_taken_further.ensures ∙ c.if-not-is_taken_further.false))

pub returns : goal.returns
unfolding takes_full
returns c = c.is_taken.ensures ∙ rw (sym c.is_taken_further.ensures ∙ c.if-not-is_taken_further.false)
