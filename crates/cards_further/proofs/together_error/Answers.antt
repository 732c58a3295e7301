-- `cards_further::together_error` meets its contract, in the order of the request. Assumes nothing.
use mathlib.Core.Path.{sym, ◌∙◌}
use Rattle.cards_tal.specs.Tal.{is_tal}
use Rattle.cards_trn.specs.Trn.{is_trn}
use Rattle.cards_further.specs.Further.{unnumbered, together_error}
use Rattle.cards_further.proofs.together_error.Goals as goal

pub returns-then-is_any : goal.returns-then-is_any
unfolding together_error
returns-then-is_any c = rw (sym (c.is_any.ensures unnumbered (λ card answer e. e)) ∙ c.if-is_any.true)

pub returns-then-is_pm_wrong : goal.returns-then-is_pm_wrong
unfolding together_error
returns-then-is_pm_wrong c =
    rw (sym (c.is_any.ensures unnumbered (λ card answer e. e)) ∙ c.if-is_any.false, sym c.is_pm_wrong.ensures ∙ c.if-is_pm_wrong.true)

pub returns-then-is_apart : goal.returns-then-is_apart
unfolding together_error
returns-then-is_apart c =
    rw (
      sym (c.is_any.ensures unnumbered (λ card answer e. e)) ∙ c.if-is_any.false,
      sym c.is_pm_wrong.ensures ∙ c.if-is_pm_wrong.false,
      sym (c.is_apart.ensures is_tal (λ card answer e. e)) ∙ c.if-is_apart.true,
    )

pub returns-then-is_apart-2 : goal.returns-then-is_apart-2
unfolding together_error
returns-then-is_apart-2 c =
    rw (
      sym (c.is_any.ensures unnumbered (λ card answer e. e)) ∙ c.if-is_any.false,
      sym c.is_pm_wrong.ensures ∙ c.if-is_pm_wrong.false,
      sym (c.is_apart.ensures is_tal (λ card answer e. e)) ∙ c.if-is_apart.false,
      sym (c.is_apart-2.ensures is_trn (λ card answer e. e)) ∙ c.if-is_apart-2.true,
    )

pub returns : goal.returns
unfolding together_error
returns c =
    rw (
      sym (c.is_any.ensures unnumbered (λ card answer e. e)) ∙ c.if-is_any.false,
      sym c.is_pm_wrong.ensures ∙ c.if-is_pm_wrong.false,
      sym (c.is_apart.ensures is_tal (λ card answer e. e)) ∙ c.if-is_apart.false,
      sym (c.is_apart-2.ensures is_trn (λ card answer e. e)) ∙ c.if-is_apart-2.false,
    )
