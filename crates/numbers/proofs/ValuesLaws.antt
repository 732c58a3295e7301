-- The list of a function's values below n has n of them, and f i at i. Assumes nothing.
use Prim.Native.Nat.{ℕ, zero, suc, ◌+◌, ◌<◌}
use mathlib.Core.Path.{◌≡◌, refl, ap, ◌∙◌}
use native.Mathlib.Nat.{le_of_suc-le-suc}
use native.Mathlib.Omega.{arith}
use lib.ListN.{length, get_or}
use Rattle.numbers.specs.Values.{values_from, values}

from-long : {A : Type 0} (k n : ℕ) (f : ℕ → A) → length (values_from k n f) ≡ n
from-long k zero f = refl
from-long k (suc n) f = ap suc (from-long (suc k) n f)

pub values-long : {A : Type 0} (n : ℕ) (f : ℕ → A) → length (values n f) ≡ n
values-long = from-long 0

from_at : {A : Type 0} (k n : ℕ) (f : ℕ → A) (i : ℕ) (d : A) → i < n → get_or (values_from k n f) i d ≡ f (k + i)
from_at k zero f i d h = absurd (omega arith)
from_at k (suc n) f zero d h = let e : k ≡ k + 0 = omega arith in ap f e
from_at k (suc n) f (suc i) d h = let e : suc k + i ≡ k + suc i = omega arith in from_at (suc k) n f i d (le_of_suc-le-suc h) ∙ ap f e

pub values-at : {A : Type 0} (n : ℕ) (f : ℕ → A) (i : ℕ) (d : A) → i < n → get_or (values n f) i d ≡ f i
values-at n f i d h = let e : 0 + i ≡ i = omega arith in from_at 0 n f i d h ∙ ap f e
