-- What the listing program prints.
use Rattle.std.specs.Prelude.{ℕ, zero, suc, ◌+◌, ◌≤◌, ◌≡◌, Bool, false, cond, not, ◌&&◌, Option, Some, None, Ok, Err, List, [], ◌++◌, length, take, drop}
use Rattle.numbers.specs.Quoted.{bytes}
use Rattle.numbers.specs.Kinds.{is_drum}
use Rattle.numbers.specs.Refusals.{number_of}
use Rattle.numbers.specs.declared.Refusal.TheVariants.{BadConfiguration}
use Rattle.numbers.specs.declared.ChannelNumber.{ChannelNumber}
use Rattle.numbers.specs.declared.UnitNumber.{UnitNumber}
use Rattle.text.specs.Room as Room
use Rattle.text.specs.Writing.{two_text, decimal_text}
use Rattle.channels.specs.declared.Fitted.{Fitted}
use Rattle.channels.specs.declared.Channel.{Channel}
use Rattle.channels.specs.declared.Configuration.{Configuration}
use Rattle.channels.specs.Channels.{channel_in, has_unit}
use Rattle.configuration.specs.Configured.{Answer, configuration_of}
use Rattle.units.specs.declared.Unit.{Unit}
use Rattle.units.specs.State.{unit_in, assignable}
use Rattle.configuration_units.specs.Fresh.{fresh_units}

-- a bad configuration gives `ER 14 LINE n`, 14 the number of its refusal
abbrev pub error_text : ℕ → List ℕ
error_text line = bytes "ER " ++ (decimal_text (number_of BadConfiguration) ++ (bytes " LINE " ++ (decimal_text line ++ bytes "\n")))

-- each channel but the drum's
abbrev pub is_listed_by : Option Fitted → Bool
is_listed_by None = false
is_listed_by (Some on) = not (is_drum on.kind)

abbrev pub is_listed : Channel → Bool
is_listed channel = is_listed_by channel.has

-- what a unit counts for: 1 if it is configured and assignable
unfoldable pub counted : Configuration → List (List Unit) → ChannelNumber → UnitNumber → ℕ
counted configuration grid channel unit = cond (has_unit configuration channel unit && assignable (unit_in grid channel.0 unit.0)) 1 0

-- how many units of a channel are assignable, of its units below `upto`
unfoldable pub assignable_units : Configuration → List (List Unit) → ChannelNumber → ℕ → ℕ
assignable_units configuration grid channel zero = 0
assignable_units configuration grid channel (suc upto) =
    assignable_units configuration grid channel upto + counted configuration grid channel (record { 0 = upto })

-- how many units of a channel are assignable in the fresh cell
abbrev pub fresh_count : Configuration → ChannelNumber → ℕ
fresh_count configuration channel = assignable_units configuration (fresh_units configuration.down) channel 16

-- `cc n`, n the channel's assignable units in the fresh cell
unfoldable pub channel_text : Configuration → ChannelNumber → List ℕ
channel_text configuration channel =
    cond (is_listed (channel_in configuration channel))
    (two_text channel.0 ++ (bytes " " ++ (decimal_text (fresh_count configuration channel) ++ bytes "\n")))
    []

-- the lines of `left` channels from c on
unfoldable pub lines_from : Configuration → ℕ → ℕ → List ℕ
lines_from configuration zero c = []
lines_from configuration (suc left) c = channel_text configuration (record { 0 = c }) ++ lines_from configuration left (c + 1)

-- the text of an answer
abbrev pub answer_text : Answer → List ℕ
answer_text (Ok configuration) = lines_from configuration 16 0
answer_text (Err line) = error_text line.0

-- the listing of a text
abbrev pub listing_of : List ℕ → List ℕ
listing_of s = answer_text (configuration_of s)

-- what the listing leaves in lent room: its text from the room's start on, cut at the room's end. All of it fits in 96
-- bytes, and what is past it is kept
pub record Listed (s room after : List ℕ) (r : ℕ) : Type 0 where
  pub text : Room.Written room 0 (listing_of s) after r
  pub whole : 96 ≤ length room → (take r after ≡ listing_of s) × (drop r after ≡ drop r room)
