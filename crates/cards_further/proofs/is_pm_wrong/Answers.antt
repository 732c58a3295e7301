-- `cards_further::is_pm_wrong` meets its contract, test by test. Assumes nothing.
use mathlib.Core.Path.{◌≡◌, sym, ◌∙◌}
use mathlib.Core.Bool.{true, false}
use Rattle.cards_pm.specs.Pm.{is_pm}
use Rattle.cards_further.specs.Further.{faulty, pm_wrong}
use Rattle.cards_further.proofs.is_pm_wrong.Goals.{then-is_apart, else-is_apart}
use Rattle.cards_further.proofs.is_pm_wrong.Goals as goal

pub returns-then-is_any : goal.returns-then-is_any
unfolding pm_wrong
returns-then-is_any c =
    let a = c.is_apart.ensures is_pm (λ card answer e. e) in
    elim c.if-is_apart.branch [
      | then-is_apart w ↦ rw (c.if-is_any.true, sym a ∙ w.if-is_apart.true)
      | else-is_apart w ↦ rw (
        c.if-is_any.true,
        sym a ∙ w.if-is_apart.false,
        sym (w.is_any.ensures faulty (λ card answer e. e)) ∙ sym w.value-is ∙ c.if-is_any.true,
      )
    ]

pub returns-else-is_any : goal.returns-else-is_any
unfolding pm_wrong
returns-else-is_any c =
    let a = c.is_apart.ensures is_pm (λ card answer e. e) in
    elim c.if-is_apart.branch [
      | then-is_apart w ↦ absurd (let z : true ≡ false = sym w.if-is_apart.true ∙ sym w.value-is ∙ c.if-is_any.false in cc)
      | else-is_apart w ↦ rw (
        sym a ∙ w.if-is_apart.false,
        sym (w.is_any.ensures faulty (λ card answer e. e)) ∙ sym w.value-is ∙ c.if-is_any.false,
        ← c.is_rising.ensures,
      )
    ]
