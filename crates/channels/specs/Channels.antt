-- What is configured: 16 channels, each with nothing or with a kind and its n. Beside them the units that are down, and
-- the codes that set interlock.
use Rattle.std.specs.Prelude.{ℕ, Bool, false, cond, ◌&&◌, Option, Some, None, List, eqb, leb, ltb, get_or, replicate}
use Rattle.numbers.specs.declared.ChannelNumber.{ChannelNumber}
use Rattle.numbers.specs.declared.UnitNumber.{UnitNumber}
use Rattle.numbers.specs.declared.Kind.{Kind}
use Rattle.numbers.specs.Bits.{bit}
use Rattle.numbers.specs.Kinds.{is_drum}
use Rattle.channels.specs.declared.Fitted.{Fitted}
use Rattle.channels.specs.declared.Channel.{Channel}
use Rattle.channels.specs.declared.Configuration.{Configuration}

-- a channel of a kind with its n
abbrev pub fitted : Kind → ℕ → Channel
fitted kind n = record { has = Some (record { kind = kind; n = n }) }

-- no such channel
abbrev pub no_channel : Channel
no_channel = record { has = None }

abbrev pub no_channels : List Channel
no_channels = replicate 16 no_channel

abbrev pub no_down : List Bool
no_down = replicate 256 false

-- no code sets interlock
abbrev pub no_codes : ℕ
no_codes = 0

-- a code sets interlock: the codes that do are a word of 64 bits, bit k for code k
unfoldable pub sets_interlock : ℕ → ℕ → Bool
sets_interlock codes k = eqb (bit codes k) 1

-- how many units there are; the drum has none
abbrev pub units_in : Option Fitted → ℕ
units_in None = 0
units_in (Some on) = cond (is_drum on.kind) 0 on.n

abbrev pub units_of : Channel → ℕ
units_of channel = units_in channel.has

-- the channel that has a number
abbrev pub channel_in : Configuration → ChannelNumber → Channel
channel_in configuration channel = get_or configuration.channels channel.0 no_channel

-- a configured unit: units 0 to 15 on a channel, as many as it has
unfoldable pub has_unit : Configuration → ChannelNumber → UnitNumber → Bool
has_unit configuration channel unit = leb unit.0 15 && ltb unit.0 (units_of (channel_in configuration channel))
