-- Text written into lent room, piece after piece. What does not fit is cut at the room's end, so that writing is
-- defined for every room. A piece after a piece is the two pieces joined, whether they fit or not.
use Rattle.std.specs.Prelude.{ℕ, ◌+◌, min, max, ◌≡◌, List, ◌++◌, length, drop}
use Rattle.std.proofs.lemmas.List.Edits.{sets}
use Rattle.text.specs.declared.room.Room.{Room}

-- the index `count` bytes on from `at`, but not past the room's end
abbrev pub reach : ℕ → ℕ → ℕ → ℕ
reach at count end = max at (min (at + count) end)

-- `room` with the bytes of `piece` stored one after the other from `at` on is `after`, and the next index is `next`
pub record Written (room : List ℕ) (at : ℕ) (piece after : List ℕ) (next : ℕ) : Type 0 where
  pub bytes : after ≡ sets room at piece
  pub reached : next ≡ reach at (length piece) (length room)

-- a text that stands in the room whole: it has r bytes, they are the room's first, and every byte behind them is kept
pub record Whole (text room after· : List ℕ) (r : ℕ) : Type 0 where
  pub ends : r ≡ length text
  pub bytes : after· ≡ text ++ drop r room

-- a piece put into a room at its index, which then is the next; the room lends the same bytes
pub record Puts (before : Room) (piece : List ℕ) (after· : Room) : Type 0 where
  pub written : Written before.bytes.now before.at piece after·.bytes.now after·.at
  pub same : after·.bytes.ghost_name ≡ before.bytes.ghost_name
