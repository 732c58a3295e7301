-- The lines of an input: each ends with its LF, whatever pieces the input comes in.
use Rattle.std.specs.Prelude.{ℕ, ◌+◌, ◌≡◌, Bool, cond, List, ltb, length}
use Rattle.text.specs.Room.{Written}
use Rattle.words.specs.Lines.{line_of}
use Rattle.input_lines.specs.declared.Cut.{Cut}

-- the line is whole: its LF is in the piece
abbrev pub is_whole : List ℕ → Bool
is_whole piece = ltb (length (line_of piece)) (length piece)

-- a line is taken up: its bytes come after those that are kept, cut at the room's end. Its LF is taken up with it and
-- not kept
pub record TakesUp (line : List ℕ) (kept : ℕ) (piece after : List ℕ) (r : Cut) : Type 0 where
  pub put : Written line kept (line_of piece) after r.kept
  pub whole : r.whole ≡ is_whole piece
  pub taken : r.taken ≡ length (line_of piece) + cond (is_whole piece) 1 0
