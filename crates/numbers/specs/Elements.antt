-- Elements of a list by a test or by their index.
use Rattle.std.specs.Prelude.{ℕ, suc, ◌≡◌, Bool, false, cond, ◌||◌, List, [], ◌∷◌}
use Rattle.std.proofs.Math.Option.{Option, none, some}

module _ {A : Type 0} where
  -- the elements that pass a test, in their order
  abbrev pub keep : (A → Bool) → List A → List A
  keep f [] = []
  keep f (x ∷ l) = cond (f x) (x ∷ keep f l) (keep f l)

  -- the first element that passes
  abbrev pub find : (A → Bool) → List A → Option A
  find f [] = none
  find f (x ∷ l) = cond (f x) (some x) (find f l)

  -- some element passes
  abbrev pub any : (A → Bool) → List A → Bool
  any f [] = false
  any f (x ∷ l) = f x || any f l

  -- each element changed by its index, counted from k
  abbrev pub map_from : ℕ → (ℕ → A → A) → List A → List A
  map_from k f [] = []
  map_from k f (x ∷ l) = f k x ∷ map_from (suc k) f l

  -- every element is so
  abbrev pub All : (A → Type 0) → List A → Type 0
  All P [] = Unit {0}
  All P (x ∷ l) = P x × All P l

-- no two elements are the same
module _ {A : Type 0} (same : A → A → Bool) where
  abbrev pub Nodup : List A → Type 0
  Nodup [] = Unit {0}
  Nodup (x ∷ l) = All (λ (y : A). same y x ≡ false) l × Nodup l
