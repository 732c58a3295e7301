-- The first number from k on, of n, that passes a test; and that it is. Assumes nothing.
use Prim.Native.Nat.{ℕ, zero, suc, ◌+◌, ◌≤◌, ◌<◌}
use mathlib.Core.Path.{◌≡◌, refl, sym, ap, ◌∙◌}
use mathlib.Core.Bool.{Bool, true, false, cond}
use mathlib.Core.Logic.{⊎_elim}
use native.Mathlib.Nat.{eq-or-lt_of_le}
use native.Mathlib.Omega.{arith}
use Rattle.numbers.proofs.Tests.{never}

pub data Hit : Type 0 where
  hit : ℕ → Hit
  none : Hit

abbrev pub seek : (ℕ → Bool) → ℕ → ℕ → Hit
seek f zero k = none
seek f (suc n) k = cond (f k) (hit k) (seek f n (suc k))

abbrev pub First : (ℕ → Bool) → ℕ → ℕ → Hit → Type 0
First f n k (hit m) = (f m ≡ true) × ((b : ℕ) → k ≤ b → b < m → f b ≡ true → ⊥)
First f n k none = (b : ℕ) → k ≤ b → b < k + n → f b ≡ true → ⊥

first_step : (f : ℕ → Bool) (n k : ℕ) (v : Bool) → f k ≡ v → (h : Hit) → First f n (suc k) h → First f (suc n) k (cond v (hit k) h)
first_step f n k true e h p = (e, λ b l m t. omega arith)
first_step f n k false e (hit m) p = (p.0, λ b l q t. ⊎_elim (λ x. never t (ap f (sym x) ∙ e)) (λ x. p.1 b x q t) (eq-or-lt_of_le l))
first_step f n k false e none p = λ b l q t. ⊎_elim (λ x. never t (ap f (sym x) ∙ e)) (λ x. p b x (omega arith) t) (eq-or-lt_of_le l)

pub first : (f : ℕ → Bool) (n k : ℕ) → First f n k (seek f n k)
first f zero k = λ b l q t. omega arith
first f (suc n) k = first_step f n k (f k) refl (seek f n (suc k)) (first f n (suc k))
