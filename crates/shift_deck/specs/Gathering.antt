-- A deck gathered card by card: "the bytes of the deck are those after the DECK line up to and including the
-- termination card's LF".
use Rattle.std.specs.Prelude.{ℕ, ◌+◌, ◌≡◌, Bool, cond, Option, Some, None, List, leb, length}
use Rattle.std.proofs.lemmas.List.Edits.{sets}
use Rattle.numbers.specs.Limits.{deck_bytes}
use Rattle.words.specs.Lines.{line_text}

-- "the deck is over 16,384 bytes": whether a card still belongs to a deck of so many bytes that is not
abbrev pub has_room : ℕ → List ℕ → Bool
has_room kept line = leb (kept + (length line + 1)) deck_bytes

-- a card behind the `kept` bytes at the room's start
pub record Adds (room : List ℕ) (kept : ℕ) (line after : List ℕ) (r : Option ℕ) : Type 0 where
  pub is : r ≡ cond (has_room kept line) (Some (kept + (length line + 1))) None
  pub bytes : after ≡ cond (has_room kept line) (sets room kept (line_text line)) room
