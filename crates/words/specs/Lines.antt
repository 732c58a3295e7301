-- The lines of a text, each ended by its LF: the cards of a deck, the lines of a configuration and of a script.
use Rattle.std.specs.Prelude.{ℕ, ◌+◌, cond, List, [], ◌∷◌, ◌++◌, eqb, length}
use Rattle.words.specs.Words.{leading, isnt}

-- the byte LF
abbrev pub lf : ℕ
lf = 10

-- what a text has of the line that it begins with: all up to its first LF
abbrev pub line_of : List ℕ → List ℕ
line_of s = leading (isnt lf) s

-- one byte more in front of the first line; where no LF follows there is no line
abbrev pub onto_line : ℕ → List (List ℕ) → List (List ℕ)
onto_line b [] = []
onto_line b (l ∷ ls) = (b ∷ l) ∷ ls

-- the lines that an LF ends, without it
abbrev pub lines_of : List ℕ → List (List ℕ)
lines_of [] = []
lines_of (b ∷ s) = cond (eqb b lf) ([] ∷ lines_of s) (onto_line b (lines_of s))

-- a line as it stands in a text, its LF behind it
abbrev pub line_text : List ℕ → List ℕ
line_text line = line ++ (lf ∷ [])

-- lines as they stand in a text, one behind the other, each with its LF
abbrev pub lines_text : List (List ℕ) → List ℕ
lines_text [] = []
lines_text (l ∷ ls) = line_text l ++ lines_text ls

-- how many bytes lines take, each with its LF
abbrev pub size : List (List ℕ) → ℕ
size [] = 0
size (l ∷ ls) = length l + 1 + size ls
