-- TESTS OVER A LIST answer by what they answer of each element: cards are apart as their meanings are. Assumes nothing.
use mathlib.Core.Path.{◌≡◌, refl, sym, ap, ◌∙◌}
use mathlib.Core.Bool.{Bool, true, false, ◌||◌}
use mathlib.Core.List.{List, [], ◌∷◌}
use Rattle.numbers.proofs.Tests.{by_bool}
use Rattle.numbers.specs.Elements.{any}
use Rattle.cards_further.specs.Together.{past, apart}

-- what a test answers of each
abbrev pub marks : {A : Type 0} → (A → Bool) → List A → List Bool
marks p [] = []
marks p (c ∷ cs) = p c ∷ marks p cs

abbrev itself : Bool → Bool
itself b = b

any-marks : {A : Type 0} (p : A → Bool) (cs : List A) → any p cs ≡ any itself (marks p cs)
any-marks p [] = refl
any-marks p (c ∷ cs) = ap (λ (b : Bool). p c || b) (any-marks p cs)

past-marks : {A : Type 0} (want : Bool) (p : A → Bool) (cs : List A) → marks p (past want p cs) ≡ past want itself (marks p cs)
past-marks true p [] = refl
past-marks false p [] = refl
past-marks true p (c ∷ cs) = by_bool (p c) (λ e. rw e (past-marks true p cs)) (λ e. rw e (ap (λ (b : Bool). b ∷ marks p cs) e))
past-marks false p (c ∷ cs) = by_bool (p c) (λ e. rw e (ap (λ (b : Bool). b ∷ marks p cs) e)) (λ e. rw e (past-marks false p cs))

apart_marks : {A : Type 0} (p : A → Bool) (cs : List A) → apart p cs ≡ apart itself (marks p cs)
unfolding apart
apart_marks p cs =
    any-marks p (past true p (past false p cs))
    ∙ ap (any itself) (past-marks true p (past false p cs) ∙ ap (past true itself) (past-marks false p cs))

-- cards stand apart as their meanings do
pub apart-as : {A B : Type 0} (p : A → Bool) (q : B → Bool) (cs : List A) (ms : List B) → marks p cs ≡ marks q ms → apart p cs ≡ apart q ms
apart-as p q cs ms e = apart_marks p cs ∙ ap (apart itself) e ∙ sym (apart_marks q ms)
