-- The tables' sums, counts and tests in std's words for lists. Assumes nothing.
use Prim.Native.Nat.{ℕ, ◌+◌}
use mathlib.Core.Path.{◌≡◌, refl, ap, ◌∙◌}
use mathlib.Core.Bool.{Bool, cond, ◌&&◌, ◌||◌}
use mathlib.Core.List.{List, [], ◌∷◌}
use lib.Dec.{leb, eqb}
use Rattle.std.specs.List.{sum_by, count_by, list_all}
use Rattle.std.proofs.lemmas.List.Sums.{sum_by-cons}
use Rattle.assign_channels.specs.Choice.{total}
use Rattle.assign_channels.specs.Greedy.{ge, cnt, tests_b}

pub sum_total : (xs : List ℕ) → sum_by (λ x. x) xs ≡ total xs
sum_total [] = refl
sum_total (x ∷ xs) = sum_by-cons (λ x. x) x xs ∙ ap (λ (n : ℕ). x + n) (sum_total xs)

pub count_cnt : (t : ℕ) (xs : List ℕ) → count_by (λ x. leb t x) xs ≡ cnt t xs
unfolding ge
count_cnt t [] = refl
count_cnt t (x ∷ xs) = sum_by-cons (λ x. cond (leb t x) 1 0) x xs ∙ ap (λ (n : ℕ). ge t x + n) (count_cnt t xs)

pub all_tests : (counts all ns : List ℕ) → list_all (λ n. eqb n 0 || leb (cnt n all) (cnt n counts)) ns ≡ tests_b counts all ns
unfolding tests_b
all_tests counts all [] = refl
all_tests counts all (n ∷ ns) = ap (λ (b : Bool). (eqb n 0 || leb (cnt n all) (cnt n counts)) && b) (all_tests counts all ns)
