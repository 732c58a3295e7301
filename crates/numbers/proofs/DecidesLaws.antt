-- A function that answers yes or no says right of a fact that holds, or that does not. Assumes nothing.
use mathlib.Core.Bool.{true, false, true≢false, false≢true}
use Rattle.numbers.specs.Decides.{Decides}

pub yes : {P : Type 0} → P → Decides P true
yes p = ((λ e. p), λ e. absurd (true≢false e))

pub no : {P : Type 0} → (P → ⊥) → Decides P false
no p = ((λ e. absurd (false≢true e)), λ e. p)
