-- What std's `from_fn` makes where each call gives h of a list's item and leaves the closure as it was. Assumes nothing.
use Rattle.std.proofs.Common.{◌≡◌, ℕ, List, map, length, get_or, sym, ◌∙◌, arith}
use Rattle.std.proofs.lemmas.List.{ext_get_or, get_or-map, length-map}
use Rattle.std.specs.Array.{IsFromFnResult}
use Rattle.std.specs.Fn.{Called}
use Rattle.numbers.proofs.FromFn.{made}
use denote.Param.Members.{Mut}

pub made-map : {F A B : Type 0} {g : Mut F (ℕ × Unit {0}) B} (h : A → B) (f : F) (d : A) (e : B) (xs : List A) (ys : List B) (n : ℕ)
    → length xs ≡ n → ((i : ℕ) (y : B) (q : F) → Called g f (i, tt) y q → (q ≡ f) × (y ≡ h (get_or xs i d))) → IsFromFnResult g f ys n
    → ys ≡ map h xs
made-map {F} {A} {B} h f d e xs ys n long each m =
    ext_get_or e ys (map h xs) (m.long ∙ sym (length-map xs h ∙ long))
    (λ i l. made (λ (k : ℕ) (y : B). y ≡ h (get_or xs k d)) f e ys 0 n each m.each i (omega arith) (omega (arith, l, m.long))
    ∙ sym (get_or-map h xs i d e (omega (arith, l, m.long))))
