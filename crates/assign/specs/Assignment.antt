-- What an assignment is, whichever it is. A reader has to believe this page.
use Rattle.std.specs.Prelude.{ℕ, ◌+◌, ◌*◌, ◌<◌, ◌≡◌, Bool, true, cond, List, [], ◌∷◌, length, get_or, replicate, Option, None, Some}
use Rattle.numbers.specs.declared.LogicalChannel.{LogicalChannel}
use Rattle.numbers.specs.declared.ChannelNumber.{ChannelNumber}
use Rattle.numbers.specs.Kinds.{is_drum, unit_kinds}
use Rattle.numbers.specs.Values.{values}
use Rattle.units.specs.declared.Unit.{Unit}
use Rattle.channels.specs.declared.Fitted.{Fitted}
use Rattle.channels.specs.declared.Channel.{Channel}
use Rattle.assign_core.specs.Core as Core
use Rattle.assign_drum.specs.declared.Area.{Area}
use Rattle.assign_drum.specs.Drum as Drum
use Rattle.assign_channels.specs.declared.ByLogical.{ByLogical}
use Rattle.assign_channels.specs.Choice.{channel, by_logical, want, on}
use Rattle.assign_heads.specs.Heads.{is_given, Served}
use Rattle.assign_heads.specs.Whose.{blank}
use Rattle.assign_free.specs.Assignable.{is_free_of}
use Rattle.cards_request.specs.declared.Facilities.{Facilities}
use Rattle.assign.specs.declared.KindChannels.{KindChannels}
use Rattle.assign.specs.declared.Assigned.{Assigned}

-- what the assigner looks at: the units, the core blocks that are taken, the drum areas held by the 16 places, the
-- configured channels
pub record Supply : Type 0 where
  pub units : List (List Unit)
  pub occupancy : ℕ
  pub areas : List Area
  pub channels : List Channel

-- the same, from its four parts
abbrev pub supply_of : List (List Unit) → ℕ → List Area → List Channel → Supply
supply_of units occupancy areas channels = record { units = units; occupancy = occupancy; areas = areas; channels = channels }

-- the drum's length, where a channel is the drum's
abbrev pub length_in : Option Fitted → ℕ → ℕ
length_in None other = other
length_in (Some its) other = cond (is_drum its.kind) its.n other

-- the drum's length, of the one drum channel; 0 without
unfoldable pub drum_length : List Channel → ℕ
drum_length [] = 0
drum_length (c ∷ cs) = length_in c.has (drum_length cs)

-- A KIND IS TOLD BY ITS PLACE in the written order of those that have units. What its entries ask for, by logical channel
abbrev pub wants_of : Facilities → ℕ → ByLogical
wants_of wanted kind = by_logical (values 16 (λ l. get_or wanted.units (kind * 16 + l) 0))

-- no entry of a kind has a channel
abbrev pub no_channels : KindChannels
no_channels = record { on = replicate 16 (channel 0) }

-- the channels that the entries of a kind have, by logical channel
abbrev pub channels_of : Assigned → ℕ → List ChannelNumber
channels_of a kind = (get_or a.channels kind no_channels).on

-- unit i is of the kind and assignable
abbrev pub free_of : Supply → ℕ → ℕ → Bool
free_of supply kind i = is_free_of supply.units supply.channels kind i

-- to which entry unit i is given
abbrev pub given : Assigned → ℕ → Option LogicalChannel
given a i = (get_or a.heads i blank).to

-- to which entry of the kind unit i is given, nothing where it is of another kind
abbrev pub given_of : Supply → ℕ → Assigned → ℕ → Option LogicalChannel
given_of supply kind a i = cond (free_of supply kind i) (given a i) None

-- a unit is of one of the kinds, and assignable
pub record Assignable (supply : Supply) (i : ℕ) : Type 0 where
  pub kind : ℕ
  pub is-kind : kind < unit_kinds
  pub free : free_of supply kind i ≡ true

-- the lists have an entry for every kind, logical channel and unit
pub record Shaped (a : Assigned) : Type 0 where
  pub kinds : length a.channels ≡ unit_kinds
  pub entries : (kind : ℕ) → kind < unit_kinds → length (channels_of a kind) ≡ 16
  pub units : length a.heads ≡ 256

-- An assignment: a run of IB blocks and, if DB is asked for, a disjoint run of DB blocks; a drum area if asked for. For
-- each kind, every entry with logical channel 1-15 is on a channel of its own, all its units there. The logical channel
-- 0 entry is on any remaining units of that kind.
pub record IsAssignment (supply : Supply) (wanted : Facilities) (a : Assigned) : Type 0 where
  pub shaped : Shaped a
  pub core : Core.Fits supply.occupancy wanted.ib wanted.db a.ib a.db
  pub drum : Drum.Fits supply.areas (drum_length supply.channels) wanted.md a.drum
  pub only : (i : ℕ) → is_given (given a i) ≡ true → Assignable supply i
  pub kinds : (kind : ℕ) → kind < unit_kinds
      → Served (free_of supply kind) (want (wants_of wanted kind)) (on (channels_of a kind)) (given_of supply kind a)
