-- `cards_further::types_error` meets its contract, test by test. Assumes nothing.
use mathlib.Core.Path.{sym, ◌∙◌}
use Rattle.cards_fac.specs.Fac.{is_fac}
use Rattle.cards_further.specs.Further.{unknown, types_error}
use Rattle.cards_further.proofs.types_error.Goals as goal

pub returns-then-is_any : goal.returns-then-is_any
unfolding types_error
returns-then-is_any c = rw (sym (c.is_any.ensures is_fac (λ card answer e. e)) ∙ c.if-is_any.true)

pub returns-then-is_any-2 : goal.returns-then-is_any-2
unfolding types_error
returns-then-is_any-2 c =
    rw (sym (c.is_any.ensures is_fac (λ card answer e. e)) ∙ c.if-is_any.false, sym (c.is_any-2.ensures unknown (λ card answer e. e)) ∙ c.if-is_any-2.true)

pub returns : goal.returns
unfolding types_error
returns c =
    rw (sym (c.is_any.ensures is_fac (λ card answer e. e)) ∙ c.if-is_any.false, sym (c.is_any-2.ensures unknown (λ card answer e. e)) ∙ c.if-is_any-2.false)
