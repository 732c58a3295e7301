-- Numbers added up, and how many of them pass a test. A reader has to believe this page.
use Rattle.std.specs.Prelude.{ℕ, zero, suc, ◌+◌, Bool, cond}

-- f 0 and so on, below n
unfoldable pub sum_to : ℕ → (ℕ → ℕ) → ℕ
sum_to zero f = 0
sum_to (suc n) f = f n + sum_to n f

-- what a test counts for
abbrev pub one : Bool → ℕ
one b = cond b 1 0

-- how many numbers below n pass a test
abbrev pub how_many : ℕ → (ℕ → Bool) → ℕ
how_many n test = sum_to n (λ i. one (test i))
