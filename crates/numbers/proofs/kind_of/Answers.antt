-- `numbers::kind_of` meets its contract: the search finds the first kind whose code is the list of the two bytes, and
-- the definition compares that list byte by byte. Assumes nothing.
use Rattle.std.proofs.Common.{rules, tests, Bool, true, false, ◌&&◌, ◌≡◌, refl, ◌∙◌, [], ◌∷◌, eqb}
use Rattle.std.proofs.lemmas.Iterator.{YieldsList-from_slice}
use Rattle.std.proofs.lemmas.Iterator.Search.{find_from_yields_List}
use Rattle.std.specs.Cmp.Lexicographic.{pointwise}
use Rattle.numbers.specs.Kinds.{by_row, kind_of, code_of}
use Rattle.numbers.specs.Quoted.{is2}
use Rattle.numbers.proofs.kind_of.Goals as goal

and-true : (b : Bool) → (b && true) ≡ b
and-true true = refl
and-true false = refl

pub returns : goal.returns
unfolding kind_of is2
returns c =
    c.copied.ensures
    ∙ find_from_yields_List (λ k. pointwise eqb (c.args.a ∷ c.args.b ∷ []) (code_of k)) _ _ _ c.find.ensures.ran
    (YieldsList-from_slice by_row cc) (λ x b q k. search (rules, tests))
    ∙ simp and-true
