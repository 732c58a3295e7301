-- The reply that an answer from the request lists comes to. Nothing on this page has to be believed: contracts cite it,
-- and proofs/FollowedLaws shows that it comes to the same as page Replies.
use Rattle.std.specs.Prelude.{◌≡◌, ℕ, List}
use Rattle.schedule_list.specs.declared.Schedule.{Schedule}
use Rattle.cell.specs.Calls.{cell_of, followed}
use Rattle.cell.specs.declared.Cell.{Cell}
use Rattle.shift_script.specs.declared.Line.{Line}
use Rattle.shift_packets.specs.OnLists.{Handles}
use Rattle.shift_packets.specs.declared.Handled.{Handled}
use Rattle.shift_reply.specs.declared.Replied.{Replied}

-- the lists that a call leaves, and the schedule, which follows the answer
abbrev pub followed_by : Schedule → Handled → Cell
followed_by s h = cell_of (followed s h.answer) h.lists

-- a line that is a call on the request lists, answered from them
pub record Followed (cell : Cell) (call : Line) (room after : List ℕ) (r : Replied) : Type 0 where
  pub handled : Handled
  pub handles : Handles cell.lists call room after handled
  pub is : r ≡ record { cell = followed_by cell.schedule handled; at = handled.at }
