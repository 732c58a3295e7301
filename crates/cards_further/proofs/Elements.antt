-- What owning an array tells of its elements: each is what its type lets it be. Assumes nothing.
use Prim.Native.Nat.{ℕ, zero, suc, ◌<◌}
use mathlib.Core.Path.{◌≡◌, sym, subst, ◌∙◌}
use mathlib.Core.List.{List, [], ◌∷◌, map}
use native.Mathlib.Nat.{le_of_suc-le-suc}
use native.Mathlib.Omega.{arith}
use Rattle.std.proofs.lemmas.List.{map-id}
use lib.ListN.{length, get_or, length-map, get_or-eq_default}
use lib.Dec.{ltb}
use borrow.Author.Tests.{ltb-true, ltb-false}
use mir.Val.{Val}
use denote.Shadow.{shadow}
use denote.Laws.{Is}
use denote.Array.{Array, each}
use denote.RattleType.{RattleType}
use denote.Struct.Field.{Field, row_field, array_field}
use Rattle.numbers.proofs.Tests.{by_bool}

-- an array has its length, and each element is of the element's type
pub long : (F : Field) (n : ℕ) (xs : List F.Value) (vs : List Val) → Is (array_field F n).row ((array_field F n).into xs) vs → length xs ≡ n
long F n xs vs p = sym (length-map xs F.into) ∙ p.1.0.1

-- some machine values have it
abbrev pub Some : (F : Field) → F.Value → Type 0
Some F x = (vs : List Val) × Is F.row (F.into x) vs

pub each_at : (F : Field) (xs : List F.Value) (us : List Val) → shadow (each F.row.Denot F.row.own_val (map F.into xs) us)
    → (i : ℕ) (d : F.Value) → i < length xs → Some F (get_or xs i d)
each_at F [] us s i d h = absurd (omega arith)
each_at F (x ∷ xs) [] s i d h = absurd s
each_at F (x ∷ xs) (u ∷ us) s zero d h = (u ∷ [], s.0)
each_at F (x ∷ xs) (u ∷ us) s (suc i) d h = each_at F xs us s.1 i d (le_of_suc-le-suc h)

-- what holds of whatever is of a type, and of the default, holds at every place of an array
pub everywhere : (F : Field) (n : ℕ) (P : F.Value → Type 0) (xs : List F.Value) (vs : List Val)
    → Is (array_field F n).row ((array_field F n).into xs) vs
    → ((x : F.Value) → Some F x → P x) → (d : F.Value) → P d → (i : ℕ) → P (get_or xs i d)
everywhere F n P xs vs p f d z i =
    by_bool (ltb i (length xs))
    (λ t. f (get_or xs i d) (each_at F xs p.0 p.1.1 i d (ltb-true i (length xs) t)))
    (λ e. subst P (sym (get_or-eq_default xs d {n = i} (ltb-false i (length xs) e))) z)

-- the same of an array that is a field by its own row, whose values are its elements as they stand
pub long_row : (R : RattleType) (n : ℕ) (xs : List R.Denot) (vs : List Val) → Is (Array R n) xs vs → length xs ≡ n
long_row R n xs vs p = p.1.0.1

pub everywhere_row : (R : RattleType) (n : ℕ) (P : R.Denot → Type 0) (xs : List R.Denot) (vs : List Val) → Is (Array R n) xs vs
    → ((x : R.Denot) → Some (row_field R) x → P x) → (d : R.Denot) → P d → (i : ℕ) → P (get_or xs i d)
everywhere_row R n P xs vs p =
    everywhere (row_field R) n P xs vs (subst (λ (l : List R.Denot). Is (Array R n) l vs) (sym (map-id xs)) p)
