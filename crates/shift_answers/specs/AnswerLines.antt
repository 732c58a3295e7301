-- What a call answers, a line each.
use Rattle.std.specs.Prelude.{List, ◌++◌, ℕ}
use Rattle.numbers.specs.Quoted.{bytes}
use Rattle.text.specs.Writing.{decimal_text, octal_text}
use Rattle.packets.specs.declared.Begun.{Begun}
use Rattle.packets.specs.declared.Site.{Site}
use Rattle.packets.specs.declared.Site.TheVariants.{AtAddress, AtUnit}
use Rattle.packets.specs.declared.Status.{Status}
use Rattle.packets.specs.declared.Status.TheVariants.{Blank, Listed, InProgress, Stopping, Ended}
use Rattle.answer_pieces.specs.Pieces.{packet_text}

-- a call that answers nothing else: `ACK`
abbrev pub done_text : List ℕ
done_text = bytes "ACK\n"

-- the number of the unit, or the address
abbrev pub number_at : Site → ℕ
number_at (AtUnit u) = u.0
number_at (AtAddress x) = x

-- a start: `ACK p k ff x`, place, packet, function in two octal digits, unit or address
abbrev pub started_text : Begun → List ℕ
started_text b =
    bytes "ACK "
    ++ (packet_text b.place b.packet
    ++ (bytes " " ++ (octal_text b.function ++ (bytes " " ++ (decimal_text (number_at b.at) ++ bytes "\n")))))

-- a completion: `ACK p k`, the packet that it ends
abbrev pub completed_text : ℕ → ℕ → List ℕ
completed_text place packet = bytes "ACK " ++ (packet_text place packet ++ bytes "\n")

-- a packet's status
abbrev pub status_word : Status → List ℕ
status_word Blank = bytes "BLANK"
status_word Listed = bytes "LISTED"
status_word InProgress = bytes "MOVING"
status_word Stopping = bytes "STOPPING"
status_word (Ended code) = bytes "ENDED " ++ octal_text code

abbrev pub status_text : Status → List ℕ
status_text status = bytes "ACK " ++ (status_word status ++ bytes "\n")

-- a line that is no call: `??`
abbrev pub no_call_text : List ℕ
no_call_text = bytes "??\n"
