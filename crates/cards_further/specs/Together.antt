-- Cards in a list: whether those of a kind stand apart.
use Rattle.std.specs.Prelude.{Bool, true, false, cond, List, [], ◌∷◌}
use Rattle.numbers.specs.Elements.{any}

-- the list without those in front that are of a kind, or that are not
abbrev pub past : {A : Type 0} → Bool → (A → Bool) → List A → List A
past of p [] = []
past true p (c ∷ cs) = cond (p c) (past true p cs) (c ∷ cs)
past false p (c ∷ cs) = cond (p c) (c ∷ cs) (past false p cs)

-- apart: "another card stands between two of the kind". After the first of them, and those that follow at once, is one more
unfoldable pub apart : {A : Type 0} → (A → Bool) → List A → Bool
apart p cs = any p (past true p (past false p cs))
