-- What the definitions of Core mean: they leave one answer, and a DB that is not asked for starts at 0. Assumes
-- nothing.
use Rattle.std.specs.Prelude.{Option, Some, None}
use Prim.Native.Nat.{ℕ, ◌-◌, ◌<◌}
use mathlib.Core.Path.{◌≡◌, refl, sym, ap}
use mathlib.Core.Logic.{◌⊎◌, inl, inr, ⊎_elim}
use native.Mathlib.Nat.{eq-zero-or-pos}
use native.Mathlib.Omega.{arith}
use Rattle.assign_core.specs.declared.Pair.{Pair}
use Rattle.assign_core.specs.Core.{Before, LeastPair}

-- of two pairs one comes before the other, or they are one
pub three : (p q : Pair) → Before p.0 p.1 q.0 q.1 ⊎ ((p ≡ q) ⊎ Before q.0 q.1 p.0 p.1)
three p q =
    ⊎_elim (λ l. inl (inl l))
    (λ m. ⊎_elim
    (λ e. ⊎_elim (λ l. inl (inr (e, l))) (λ n. ⊎_elim (λ f. inr (inl λ i. record { 0 = e i; 1 = f i })) (λ g. inr (inr (inr (sym e, g)))) n)
    (of_two p.1 q.1))
    (λ g. inr (inr (inl g)))
    m)
    (of_two p.0 q.0)
  where
    of_two : (a b : ℕ) → (a < b) ⊎ ((a ≡ b) ⊎ (b < a))
    of_two a b =
        ⊎_elim (λ e. ⊎_elim (λ f. inr (inl (omega arith))) (λ p. inl (omega arith)) (eq-zero-or-pos (b - a)))
        (λ p. inr (inr (omega arith)))
        (eq-zero-or-pos (a - b))

-- two answers are one
pub answers_one : (w ib db : ℕ) (r s : Option Pair) → LeastPair w ib db r → LeastPair w ib db s → r ≡ s
answers_one w ib db None None p q = refl
answers_one w ib db None (Some b) p q = absurd (p b.0 b.1 q.0)
answers_one w ib db (Some a) None p q = absurd (q a.0 a.1 p.0)
answers_one w ib db (Some a) (Some b) p q =
    ⊎_elim (λ l. absurd (q.1 a.0 a.1 p.0 l))
    (λ m. ⊎_elim (λ e. ap Some e) (λ g. absurd (p.1 b.0 b.1 q.0 g)) m)
    (three a b)

-- a DB that is not asked for starts at 0
pub no-data : (w ib : ℕ) (p : Pair) → LeastPair w ib 0 (Some p) → p.1 ≡ 0
no-data w ib p a =
    ⊎_elim (λ e. e)
    (λ h. absurd (a.1 p.0 0 (record { instructions = a.0.instructions; data-run = λ o. absurd (omega arith) }) (inr (refl, h))))
    (eq-zero-or-pos p.1)
