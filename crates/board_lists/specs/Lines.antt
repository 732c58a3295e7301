-- The board's lines of moving packets, of listed packets and of requests.
use Rattle.std.specs.Prelude.{ℕ, None, Some, List, [], ◌++◌, get_or}
use Rattle.numbers.specs.Quoted.{bytes}
use Rattle.text.specs.Writing.{two_text}
use Rattle.cards_fields.specs.Fields.{spaceless}
use Rattle.cards_writing.specs.Writing.{priority_text}
use Rattle.schedule_entries.specs.declared.State.{State}
use Rattle.schedule_entries.specs.declared.State.TheVariants.{Waiting, Suspended, Running, Closing}
use Rattle.schedule_entries.specs.declared.Entry.{Entry}
use Rattle.packets.specs.State.{Motion, place_of, packet_of, blank, job_in}
use Rattle.packets.specs.declared.Packet.{Packet}
use Rattle.packets.specs.declared.Job.{Job}
use Rattle.packets.specs.declared.Carrier.{Carrier}
use Rattle.answer_pieces.specs.Pieces.{packet_text, each, each_of}

-- `cc p k` behind a word: a packet on a channel
abbrev pub line_text : List ℕ → ℕ → ℕ → ℕ → List ℕ
line_text word channel place packet = word ++ (two_text channel ++ (bytes " " ++ (packet_text place packet ++ bytes "\n")))

-- what moves on a channel
abbrev pub motion_text : ℕ → Motion → List ℕ
motion_text channel None = []
motion_text channel (Some (place, packet)) = line_text (bytes "MOVES ") channel place packet

abbrev pub idle : Carrier
idle = record { motion = None }

-- "for each channel, ascending, that has a packet in progress or stopping: `MOVES cc p k`"
abbrev pub moves_text : List Carrier → List ℕ
moves_text moving = each (λ c. motion_text c (get_or moving c idle).motion) 16

-- an entry of the list is place * 16 + packet; the channel is that of the packet
unfoldable pub entry_text : List Packet → ℕ → List ℕ
entry_text packets e = line_text (bytes "LISTED ") (get_or packets (packet_of e) blank).channel.0 (place_of e) (packet_of e)

abbrev pub listed_line : List Job → ℕ → List ℕ
listed_line jobs e = entry_text (job_in jobs (place_of e)).packets e

-- "for each listed packet, in the order of listing: `LISTED cc p k`"
abbrev pub listed_text : List Job → List ℕ → List ℕ
listed_text jobs queue = each_of (listed_line jobs) queue

-- "` WAITS`, ` RUNS`, ` CLOSES` or ` SUSPENDED`"
abbrev pub state_word : State → List ℕ
state_word Waiting = bytes " WAITS\n"
state_word Suspended = bytes " SUSPENDED\n"
state_word (Running place) = bytes " RUNS\n"
state_word (Closing place) = bytes " CLOSES\n"

-- "`id priority` as the deck program prints it" and where the request stands
unfoldable pub request_text : Entry → List ℕ
request_text e = spaceless e.request.id ++ (bytes " " ++ (priority_text e.request ++ state_word e.state))

-- "for each request in the schedule, in selection order"
abbrev pub requests_text : List Entry → List ℕ
requests_text es = each_of request_text es
