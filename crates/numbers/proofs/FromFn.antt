-- What std's `from_fn` makes, where calls leave the closure as it was: a fact of each element. Assumes nothing.
use Prim.Native.Nat.{ℕ, zero, suc, ◌+◌, ◌≤◌, ◌<◌}
use mathlib.Core.Path.{◌≡◌, sym, subst}
use mathlib.Core.Logic.{⊎_elim}
use mathlib.Core.List.{List}
use native.Mathlib.Nat.{eq-or-lt_of_le}
use native.Mathlib.Omega.{arith}
use lib.ListN.{get_or}
use denote.Param.Members.{Mut, Called}
use Rattle.std.specs.Array.{IsFromFnResultFrom}

pub made : {F B : Type 0} {g : Mut F (ℕ × Unit {0}) B} (P : ℕ → B → Type 0) (f : F) (d : B) (ys : List B) (i n : ℕ)
    → ((x : ℕ) (r : B) (q : F) → Called g f (x, tt) r q → (q ≡ f) × P x r) → IsFromFnResultFrom g f ys i n
    → (k : ℕ) → i ≤ k → k < i + n → P k (get_or ys k d)
made P f d ys i zero t m k h l = absurd (omega arith)
made {F} {B} {g} P f d ys i (suc n) t m k h l =
    let s = t i m.1 m.0 m.3 in
    ⊎_elim
    (λ e. subst (λ (x : ℕ). P x (get_or ys x d)) e (subst (P i) (sym (m.2.1 d)) s.1))
    (λ a. made P f d ys (i + 1) n t (subst (λ (q : F). IsFromFnResultFrom g q ys (i + 1) n) s.0 m.4) k (omega arith) (omega arith))
    (eq-or-lt_of_le h)
