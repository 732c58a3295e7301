-- The list of a function's values below a number.
use Rattle.std.specs.Prelude.{ℕ, zero, suc, List, [], ◌∷◌}

-- f k, f (k + 1) and so on, n of them
abbrev pub values_from : {A : Type 0} → ℕ → ℕ → (ℕ → A) → List A
values_from k zero f = []
values_from k (suc n) f = f k ∷ values_from (suc k) n f

-- f 0, f 1, .. f (n - 1)
abbrev pub values : {A : Type 0} → ℕ → (ℕ → A) → List A
values n f = values_from 0 n f
