-- PM cards as a request holds them: a digit and a text, and how they are written.
use Rattle.std.specs.Prelude.{ℕ, ◌+◌, ◌≤◌, ◌≡◌, true, List, ◌∷◌, ◌++◌, length}
use Rattle.numbers.specs.Quoted.{byte, bytes}
use Rattle.numbers.specs.Limits.{pm_length}
use Rattle.words.specs.Words.{every}
use Rattle.cards_fields.specs.Fields.{card_byte}

-- "PM: a digit and a text"
pub record Sheet : Type 0 where
  pub digit : ℕ
  pub letters : List ℕ

-- "a digit and a text of 0-66 card characters"
pub record Proper (s : Sheet) : Type 0 where
  pub one : s.digit ≤ 9
  pub short : length s.letters ≤ pm_length
  pub stands : every card_byte s.letters ≡ true

-- "`PM` digit `,` text `.`; the text as it stands, so an empty one gives `ID,PM3,.`"
abbrev pub sheet_of : Sheet → List ℕ
sheet_of s = bytes "PM" ++ ((byte "0" + s.digit) ∷ byte "," ∷ (s.letters ++ bytes "."))
