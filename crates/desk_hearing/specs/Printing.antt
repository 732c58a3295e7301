-- What the desk program prints. It "reads from standard input, in this order: the repair deck, the day's deck, and then
-- one line for each ID asked for". A reader has to believe this page.
use Rattle.std.specs.Prelude.{ℕ, ◌+◌, ◌≡◌, Bool, true, false, ◌&&◌, Result, Ok, Err, List, [], ◌∷◌, ◌++◌, length, take, drop}
use Rattle.numbers.specs.Quoted.{bytes}
use Rattle.numbers.specs.declared.Refusal.{Refusal}
use Rattle.numbers.specs.declared.Refusal.TheVariants.{BadDeck}
use Rattle.words.specs.Lines.{lines_of, line_text}
use Rattle.cards_fields.specs.Deck.{before, cards_of, size, terminated, termination}
use Rattle.answer_pieces.specs.Pieces.{no_line}
use Rattle.desk_show.specs.Showing.{Shows}
use Rattle.desk_show.specs.declared.Extent.{Extent}
use Rattle.desk_show.specs.declared.Which.{Which}
use Rattle.desk_show.specs.declared.Which.TheVariants.{Repair, Day}

-- "A deck is the bytes through the LF of its first termination card, however many they are": whether it has come,
abbrev pub has_deck : List ℕ → Bool
has_deck s = terminated (cards_of s)

-- how many bytes it has, the termination card and its LF included,
abbrev pub deck_length : List ℕ → ℕ
deck_length s = size (before (cards_of s)) + length (line_text termination)

-- its bytes, and those behind it, where "reading goes on", too long or not: "the next byte belongs to what comes next"
abbrev pub deck_of : List ℕ → List ℕ
deck_of s = take (deck_length s) s

abbrev pub behind_deck : List ℕ → List ℕ
behind_deck s = drop (deck_length s) s

-- "A last line without LF counts; an input that ends with an LF has no further line"
abbrev pub last_line : List ℕ → List (List ℕ)
last_line [] = []
last_line (b ∷ s) = (b ∷ s) ∷ []

-- the IDs asked for: "the bytes of a line without its LF .. nothing dropped, nothing cut, of any length"
abbrev pub asked : List ℕ → List (List ℕ)
asked s = lines_of s ++ last_line (drop (size (lines_of s)) s)

-- the line behind the part: "`NO 11`", "`NO 22`", "the line `FROM REPAIR`" or "the line `FROM DAY`"
abbrev pub closing : Result Which Refusal → List ℕ
closing (Ok Repair) = bytes "FROM REPAIR\n"
closing (Ok Day) = bytes "FROM DAY\n"
closing (Err refusal) = no_line refusal

-- what is printed for one ID: "the part's bytes as they are, then the line"
pub record Says (id repair day text : List ℕ) : Type 0 where
  pub found : Extent
  pub part : List ℕ
  pub shows : Shows id repair day found part
  pub is : text ≡ part ++ closing found.which

-- "Each line asked is answered in turn"
abbrev pub SaysAll : List ℕ → List ℕ → List (List ℕ) → List ℕ → Type 0
SaysAll repair day [] text = text ≡ []
SaysAll repair day (id ∷ ids) text = (x : List ℕ) × (y : List ℕ) × Says id repair day x × SaysAll repair day ids y × (text ≡ x ++ y)

-- WHAT THE PROGRAM PRINTS for an input
pub data Prints (input text : List ℕ) : Type 0 where
  -- "If the input ends before the second deck's termination card .. nothing can be asked: the one line `NO 11` is printed"
  unread : (has_deck input && has_deck (behind_deck input)) ≡ false → text ≡ no_line BadDeck → Prints input text
  -- else the lines behind both decks are answered
  read : (has_deck input && has_deck (behind_deck input)) ≡ true
      → SaysAll (deck_of input) (deck_of (behind_deck input)) (asked (behind_deck (behind_deck input))) text → Prints input text
