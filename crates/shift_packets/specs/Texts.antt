-- The line of a call's answer and of a packet's status, and the call that a line is in a cell. This is the script's
-- table, last column.
use Rattle.std.specs.Prelude.{ℕ, min, cond, Result, Ok, Err, List}
use Rattle.numbers.specs.declared.ChannelNumber.{ChannelNumber}
use Rattle.channels.specs.declared.Channel.{Channel}
use Rattle.packets.specs.State.{drum_on}
use Rattle.packets.specs.declared.Act.{Act}
use Rattle.packets.specs.declared.Act.TheVariants.{Submit, Start, Complete, End, Return, Mark}
use Rattle.packets.specs.declared.Answer.{Answer}
use Rattle.packets.specs.declared.Answer.TheVariants as Answer'
use Rattle.packets.specs.declared.Spot.{Spot}
use Rattle.packets.specs.declared.Spot.TheVariants.{OnUnit, OnDrum}
use Rattle.numbers.specs.declared.Refusal.{Refusal}
use Rattle.packets.specs.declared.Status.{Status}
use Rattle.answer_pieces.specs.Pieces.{no_line}
use Rattle.shift_answers.specs.AnswerLines.{done_text, started_text, completed_text, status_text}

-- the line of an answer
abbrev pub answer_text : Answer → List ℕ
answer_text Answer'.Done = done_text
answer_text (Answer'.Started begun) = started_text begun
answer_text (Answer'.Completed place packet leaving) = completed_text place packet
answer_text (Answer'.Closed place leaving) = done_text
answer_text (Answer'.Refused refusal) = no_line refusal

-- "`STATUS p k`: a packet's status"
abbrev pub status_answer_text : Result Status Refusal → List ℕ
status_answer_text (Ok status) = status_text status
status_answer_text (Err refusal) = no_line refusal

-- "x the unit, or on the drum channel the address, or for 23 there L, with h as H". A unit number over 255 is out of
-- range as 255 is
unfoldable pub spot_on : List Channel → ChannelNumber → Spot → Spot
spot_on channels channel (OnUnit unit) = OnUnit unit
spot_on channels channel (OnDrum x h) = cond (drum_on channels channel.0) (OnDrum x h) (OnUnit (record { 0 = min x 255 }))

-- the call that a line is in a cell with these channels: a submission goes where the channel's kind says
abbrev pub placed : List Channel → Act → Act
placed channels (Submit place packet function channel spot) = Submit place packet function channel (spot_on channels channel spot)
placed channels (Start channel) = Start channel
placed channels (Complete channel how) = Complete channel how
placed channels (End place in_error) = End place in_error
placed channels (Return place channel unit) = Return place channel unit
placed channels (Mark channel unit mark on) = Mark channel unit mark on
