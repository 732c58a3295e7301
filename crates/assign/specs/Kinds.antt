-- What is known of the kinds that have been served, one after the other; `free` says which units are of a kind and
-- assignable. Nothing here has to be believed: a private function cites it, and Chosen says what comes out.
use Rattle.std.specs.Prelude.{ℕ, ◌≤◌, ◌<◌, ◌≡◌, Bool, true, false, cond, List, length, get_or, Option, None}
use Rattle.numbers.specs.declared.LogicalChannel.{LogicalChannel}
use Rattle.numbers.specs.declared.ChannelNumber.{ChannelNumber}
use Rattle.numbers.specs.Kinds.{unit_kinds}
use Rattle.assign_channels.specs.Choice.{want, on, LexLe}
use Rattle.assign_heads.specs.declared.Head.{Head}
use Rattle.assign_heads.specs.Heads.{is_given, Served, Lowest}
use Rattle.assign_heads.specs.Whose.{blank}
use Rattle.cards_request.specs.declared.Facilities.{Facilities}
use Rattle.assign.specs.declared.KindChannels.{KindChannels}
use Rattle.assign.specs.declared.Kinds.{Kinds}
use Rattle.assign.specs.Assignment.{wants_of, no_channels}

-- some assignment has these channels for a kind's entries
pub record Possible (free : ℕ → ℕ → Bool) (asked : Facilities) (kind : ℕ) (channels : List ChannelNumber) : Type 0 where
  pub long : length channels ≡ 16
  pub to : ℕ → Option LogicalChannel
  pub served : Served (free kind) (want (wants_of asked kind)) (on channels) to

-- a kind is served: the least list of channels, the lowest units
pub record KindDone (free : ℕ → ℕ → Bool) (asked : Facilities) (kind : ℕ) (channels : List ChannelNumber) (to : ℕ → Option LogicalChannel) : Type 0 where
  pub long : length channels ≡ 16
  pub served : Served (free kind) (want (wants_of asked kind)) (on channels) to
  pub least : (others : List ChannelNumber) → Possible free asked kind others → LexLe channels others
  pub lowest : Lowest (free kind) to

-- to which entry of the kind unit i is given
abbrev pub to_of : (ℕ → ℕ → Bool) → ℕ → List Head → ℕ → Option LogicalChannel
to_of free kind heads i = cond (free kind i) (get_or heads i blank).to None

-- the kinds before one are served, no unit of another is given, and no entry of another has a channel
pub record KindsDone (free : ℕ → ℕ → Bool) (asked : Facilities) (channels : List KindChannels) (heads : List Head) (order : ℕ) : Type 0 where
  pub high : order ≤ unit_kinds
  pub count : length channels ≡ unit_kinds
  pub wide : length heads ≡ 256
  pub each : (kind : ℕ) → kind < order → KindDone free asked kind (get_or channels kind no_channels).on (to_of free kind heads)
  pub rest : (kind : ℕ) → order ≤ kind → get_or channels kind no_channels ≡ no_channels
  pub only : (i : ℕ) → is_given (get_or heads i blank).to ≡ true → (kind : ℕ) × ((kind < order) × (free kind i ≡ true))

-- a kind is not served: it is lacking, and those before it are not
pub record KindLacking (free : ℕ → ℕ → Bool) (asked : Facilities) (order : ℕ) : Type 0 where
  pub is-kind : order < unit_kinds
  pub before : (kind : ℕ) → kind < order → (others : List ChannelNumber) × Possible free asked kind others
  pub never : (others : List ChannelNumber) → Possible free asked order others → ⊥

-- what is known of an answer
abbrev pub KindsAnswer : Bool → (ℕ → ℕ → Bool) → Facilities → Kinds → Type 0
KindsAnswer true free asked r = KindsDone free asked r.channels r.heads unit_kinds
KindsAnswer false free asked r = KindLacking free asked r.order

-- every kind is served, or the first that is lacking is told
abbrev pub ServesKinds : (ℕ → ℕ → Bool) → Facilities → Kinds → Type 0
ServesKinds free asked r = KindsAnswer r.ok free asked r
