-- Tests over a whole text, and the number that its digits write.
use Rattle.std.specs.Prelude.{ℕ, ◌+◌, ◌-◌, ◌*◌, Bool, cond, ◌||◌, not, List, [], ◌∷◌, eqb, ltb, length}
use Rattle.std.specs.List.{list_all, list_any}
use Rattle.std.specs.Cmp.Lexicographic.{pointwise}
use Rattle.numbers.specs.Quoted.{byte}
use Rattle.text.specs.Class.{is_digit, is_letter, is_alnum}
use Rattle.words.specs.declared.Class.{Class}
use Rattle.words.specs.declared.Class.TheVariants.{Digit, Letter, Alnum, Hyphened}

-- a byte is of a class: digits, letters, both, or both and the hyphen
abbrev pub passes : Class → ℕ → Bool
passes Digit b = is_digit b
passes Letter b = is_letter b
passes Alnum b = is_alnum b
passes Hyphened b = is_alnum b || eqb b (byte "-")

-- every byte of a text passes a test
abbrev pub every : (ℕ → Bool) → List ℕ → Bool
every = list_all

-- a byte stands in a text
abbrev pub has : List ℕ → ℕ → Bool
has s b = list_any (eqb b) s

-- two texts are the same
abbrev pub same : List ℕ → List ℕ → Bool
same = pointwise eqb

-- a byte is another than this one
abbrev pub isnt : ℕ → ℕ → Bool
isnt a b = not (eqb b a)

-- the bytes in front that pass a test
abbrev pub leading : (ℕ → Bool) → List ℕ → List ℕ
leading p [] = []
leading p (b ∷ s) = cond (p b) (b ∷ leading p s) []

-- the number that digits write, those of n before them
abbrev pub value_from : ℕ → List ℕ → ℕ
value_from n [] = n
value_from n (b ∷ s) = value_from (n * 10 + (b - byte "0")) s

-- the number that digits write
abbrev pub value : List ℕ → ℕ
value s = value_from 0 s

-- the number that at most six digits write; 0 for a longer text
unfoldable pub number_in : List ℕ → ℕ
number_in s = cond (ltb 6 (length s)) 0 (value s)
