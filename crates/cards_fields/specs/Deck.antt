-- A deck: its cards, its termination card, and its groups.
use Rattle.std.specs.Prelude.{ℕ, Bool, true, false, cond, ◌&&◌, List, [], ◌∷◌, ◌++◌, leb, length, get_or, replicate, Result, Ok, Err}
use Rattle.numbers.specs.Quoted.{byte}
use Rattle.numbers.specs.declared.Refusal.{Refusal}
use Rattle.numbers.specs.declared.Refusal.TheVariants.{BadDeck}
use Rattle.numbers.specs.Limits.{deck_bytes}
use Rattle.words.specs.Words.{same}
use Rattle.words.specs.Lines.{lines_of}
pub use Rattle.words.specs.Lines.{lf, onto_line, size}
use Rattle.cards_fields.specs.Fields.{is_pty}

-- "cards are lines ended by LF"
abbrev pub cards_of : List ℕ → List (List ℕ)
cards_of s = lines_of s

-- "80 characters: `)` in 1-8 and 73-80, `+` in 10-22, blanks elsewhere"
abbrev pub termination : List ℕ
termination = replicate 8 (byte ")") ++ byte " " ∷ replicate 13 (byte "+") ++ replicate 50 (byte " ") ++ replicate 8 (byte ")")

-- a card is the termination card
abbrev pub is_termination : List ℕ → Bool
is_termination card = same card termination

-- "What follows isn't read": the cards before the termination card
abbrev pub before : List (List ℕ) → List (List ℕ)
before [] = []
before (c ∷ cs) = cond (is_termination c) [] (c ∷ before cs)

-- whether there is a termination card
abbrev pub terminated : List (List ℕ) → Bool
terminated [] = false
terminated (c ∷ cs) = cond (is_termination c) true (terminated cs)

-- where a deck's termination card starts, or why the deck is refused
abbrev pub DeckEnd : Type 0
DeckEnd = Result ℕ Refusal

-- "Deck: at most 16,384 bytes in all": where the termination card starts, or the refusal of a deck too long or
-- without one
unfoldable pub deck_end : List ℕ → DeckEnd
deck_end s = cond (leb (length s) deck_bytes && terminated (cards_of s)) (Ok (size (before (cards_of s)))) (Err BadDeck)

-- the next card opens a group, or there is none
abbrev pub opens : List (List ℕ) → Bool
opens [] = true
opens (c ∷ cs) = is_pty c

-- a card in front of the first group, or a group of its own
abbrev pub onto_group : List ℕ → Bool → List (List (List ℕ)) → List (List (List ℕ))
onto_group c true gs = (c ∷ []) ∷ gs
onto_group c false [] = (c ∷ []) ∷ []
onto_group c false (g ∷ gs) = (c ∷ g) ∷ gs

-- "opens a group, which runs to the next such card; cards before the first are a group too"
abbrev pub groups_of : List (List ℕ) → List (List (List ℕ))
groups_of [] = []
groups_of (c ∷ cs) = onto_group c (opens cs) (groups_of cs)

-- the groups of a deck: those of the cards before its termination card
abbrev pub deck_groups : List ℕ → List (List (List ℕ))
deck_groups s = groups_of (before (cards_of s))

-- the first of the groups, none where there is no card
abbrev pub first_group : List (List ℕ) → List (List ℕ)
first_group cs = get_or (groups_of cs) 0 []

-- how many bytes of a text its first group takes
abbrev pub group_size : List ℕ → ℕ
group_size s = size (first_group (cards_of s))
