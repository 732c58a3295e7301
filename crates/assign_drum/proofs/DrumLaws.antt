-- What the definitions of Drum mean: they leave one answer, and an area that is not asked for starts at 0. Assumes
-- nothing.
use Rattle.std.specs.Prelude.{Option, Some, None}
use Prim.Native.Nat.{ℕ}
use mathlib.Core.Path.{◌≡◌, refl, ap}
use mathlib.Core.List.{List}
use mathlib.Core.Logic.{⊎_elim}
use native.Mathlib.Nat.{eq-or-lt_of_le}
use native.Mathlib.Omega.{arith}
use Rattle.numbers.proofs.Order.{le-or-lt}
use Rattle.assign_drum.specs.declared.Area.{Area}
use Rattle.assign_drum.specs.Drum.{LowestStart}

-- two answers are one
pub answers_one : (held : List Area) (size n : ℕ) (r s : Option ℕ) → LowestStart held size n r → LowestStart held size n s → r ≡ s
answers_one held size n None None p q = refl
answers_one held size n None (Some b) p q = absurd (p b q.0)
answers_one held size n (Some a) None p q = absurd (q a p.0)
answers_one held size n (Some a) (Some b) p q =
    ⊎_elim (λ l. ⊎_elim (λ e. ap Some e) (λ m. absurd (q.1 a m p.0)) (eq-or-lt_of_le l)) (λ m. absurd (p.1 b m q.0)) (le-or-lt a b)

-- an area that is not asked for starts at 0
pub not-asked : (held : List Area) (size : ℕ) (r : Option ℕ) → LowestStart held size 0 r → r ≡ Some 0
not-asked held size r p = answers_one held size 0 r (Some 0) p ((λ h. absurd (omega arith)), λ b h f. omega arith)
