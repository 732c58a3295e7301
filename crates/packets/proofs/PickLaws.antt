-- Whether some element of a list passes, in the library's word, and what the first i elements show of all of them, for
-- loops that look for one. Assumes nothing.
use Rattle.std.specs.List.{list_any}
use Prim.Native.Nat.{ℕ, zero, suc, ◌+◌, ◌≤◌, ◌<◌}
use mathlib.Core.Path.{◌≡◌, refl}
use mathlib.Core.Bool.{Bool, cond}
use mathlib.Core.List.{List, [], ◌∷◌, ◌++◌}
use mathlib.Core.Option.{some, none}
use native.Mathlib.Numerals.{add-one}
use native.Mathlib.Omega.{arith}
use lib.ListN.{length, get_or, take}
use lib.Seq.{take-suc}
use Rattle.numbers.proofs.Tests.{by_bool}
use Rattle.numbers.specs.Elements.{any, find}

module _ {A : Type 0} (f : A → Bool) where
  -- the library's word for it
  pub any-list : (l : List A) → list_any f l ≡ any f l
  any-list [] = refl
  any-list (x ∷ l) = rw (any-list l)

  -- the next is the first that passes, or none is
  pub find-step : (l : List A) (i : ℕ) (d : A) → i < length l → find f (take i l) ≡ none
      → find f (take (i + 1) l) ≡ cond (f (get_or l i d)) (some (get_or l i d)) none
  find-step l i d h e = rw (add-one i, take-suc l i d h) (after (take i l) e)
    where
      after : (m : List A) → find f m ≡ none → find f (m ++ (get_or l i d ∷ [])) ≡ cond (f (get_or l i d)) (some (get_or l i d)) none
      after [] q = refl
      after (x ∷ m) q =
          by_bool (f x)
          (λ t. absurd (let z : some x ≡ none = rw t at q in let y : ◌≡◌ {A = ℕ} 0 1 = cc in omega arith))
          (λ t. rw t (after m (rw t at q)))

  -- what is found in a part is found in the whole
  pub find-part : (l : List A) (i n : ℕ) (a : A) → i ≤ n → find f (take i l) ≡ some a → find f (take n l) ≡ some a
  find-part l zero n a h e = absurd (let y : ◌≡◌ {A = ℕ} 0 1 = cc in omega arith)
  find-part [] (suc i) zero a h e = absurd (let y : ◌≡◌ {A = ℕ} 0 1 = cc in omega arith)
  find-part [] (suc i) (suc n) a h e = e
  find-part (x ∷ l) (suc i) zero a h e = absurd (omega arith)
  find-part (x ∷ l) (suc i) (suc n) a h e =
      by_bool (f x) (λ t. rw t (rw t at e)) (λ t. rw t (find-part l i n a (omega arith) (rw t at e)))
