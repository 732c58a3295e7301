-- What the board shows, "for a reader at three in the morning", part after part.
use Rattle.std.specs.Prelude.{ℕ, ◌+◌, ◌≤◌, ◌*◌, ◌≡◌, List, ◌++◌, length, take, drop}
use Rattle.numbers.specs.Quoted.{bytes}
use Rattle.numbers.specs.Limits.{most_requests}
use Rattle.text.specs.Room as Room
use Rattle.schedule_list.specs.InSchedule.{in_schedule}
use Rattle.schedule_list.specs.declared.Schedule.{Schedule}
use Rattle.packets.specs.declared.Lists.{Lists}
use Rattle.board_jobs.specs.Places.{places_text}
use Rattle.board_jobs.specs.Blocks.{core_text}
use Rattle.board_units.specs.Units.{units_text}
use Rattle.board_drum.specs.Areas.{drum_text}
use Rattle.board_lists.specs.Lines.{moves_text, listed_text, requests_text}

-- the listed packets, in the order of listing
abbrev pub queue_of : Lists → List ℕ
queue_of lists = take lists.list.count lists.list.entries

-- THE BOARD: places, units, core, drum, what moves, what is listed, the requests, and that this is all
abbrev pub board_text : Lists → Schedule → List ℕ
board_text lists schedule =
    places_text lists.jobs (in_schedule schedule)
    ++ (units_text lists.channels lists.units.of
    ++ (core_text lists.jobs
    ++ (drum_text lists.jobs
    ++ (moves_text lists.moving
    ++ (listed_text lists.jobs (queue_of lists)
    ++ (requests_text (in_schedule schedule) ++ bytes "END OF BOARD\n"))))))

-- how many bytes hold every board: 16 places, 256 units, core, 16 areas, 16 moving packets, 256 listed ones, the requests, the
-- end
abbrev pub most : ℕ
most = 16 * 23 + 256 * 51 + 38 + 16 * 30 + 16 * 17 + 256 * 16 + most_requests * 23 + 13

-- what the board leaves in lent room: its text from a position on, cut at the room's end. Where there are that many
-- bytes, all of it is there, and the rest of the room is kept
pub record Boarded (room : List ℕ) (at : ℕ) (lists : Lists) (schedule : Schedule) (after : List ℕ) (r : ℕ) : Type 0 where
  pub text : Room.Written room at (board_text lists schedule) after r
  pub whole : at + most ≤ length room
      → (r ≡ at + length (board_text lists schedule)) × (after ≡ take at room ++ board_text lists schedule ++ drop r room)
