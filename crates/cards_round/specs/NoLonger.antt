-- One by one no longer: two lists of cards.
use Rattle.std.specs.Prelude.{ℕ, ◌≤◌, List, [], ◌∷◌, length}

-- as many cards, and each has at most as many characters as the other list's
abbrev pub NoLonger : List (List ℕ) → List (List ℕ) → Type 0
NoLonger [] [] = Unit {0}
NoLonger [] (d ∷ ds) = ⊥
NoLonger (c ∷ cs) [] = ⊥
NoLonger (c ∷ cs) (d ∷ ds) = (length c ≤ length d) × NoLonger cs ds
