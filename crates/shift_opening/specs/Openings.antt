-- The configuration in front of a script, line by line: what is kept of it, and what is answered.
use Rattle.std.specs.Prelude.{ℕ, min, ◌≤◌, ◌≡◌, false, List, [], ltb, take}
use Rattle.numbers.specs.Limits.{deck_bytes}
use Rattle.text.specs.Room.{Written}
use Rattle.words.specs.Lines.{line_text}
use Rattle.configuration_listing.specs.Listing.{error_text}
use Rattle.shift_begin.specs.Opening.{opening_of}
use Rattle.shift_begin.specs.declared.Begun.{Begun}
use Rattle.shift_begin.specs.declared.Begun.TheVariants.{More, Good, Bad}
use Rattle.shift_opening.specs.declared.Opening.{Opening}

-- a text behind what is kept at the room's start, cut at the room's end, and how many bytes are kept then
pub record Keeps (room : List ℕ) (kept : ℕ) (text after : List ℕ) (n : ℕ) : Type 0 where
  pub put : Written room (min kept deck_bytes) text after n
  pub within : n ≤ deck_bytes

-- "A bad one prints `ER 14 LINE n`"
abbrev pub begun_text : Begun → List ℕ
begun_text More = []
begun_text (Good configuration) = []
begun_text (Bad line) = error_text line.0

-- what `kept` bytes begin, and the answer from the room's start on, cut at its end
pub record AnswersOpening (begun : Begun) (kept : ℕ) (out after : List ℕ) (r : Opening) : Type 0 where
  pub begins : r.begun ≡ begun
  pub keeps : r.kept ≡ kept
  pub put : Written out 0 (begun_text begun) after r.at

-- a line: it is kept with its LF, and what the text so far begins is asked; 2,048 bytes decide
pub record Opens (kept : ℕ) (line room room' out after : List ℕ) (r : Opening) : Type 0 where
  pub n : ℕ
  pub keeps : Keeps room kept (line_text line) room' n
  pub answers : AnswersOpening (opening_of (ltb n 2048) (take n room')) n out after r

-- a configuration that is not complete at the input's end: what there is of it is all, a last line without LF too
pub record Unfinished (kept : ℕ) (rest room room' out after : List ℕ) (r : ℕ) : Type 0 where
  pub n : ℕ
  pub keeps : Keeps room kept rest room' n
  pub put : Written out 0 (begun_text (opening_of false (take n room'))) after r
