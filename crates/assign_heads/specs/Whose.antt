-- To which entry a unit is given. A reader has to believe this page.
use Rattle.std.specs.Prelude.{ℕ, ◌*◌, ◌+◌, Bool, false, cond, ◌&&◌, List, leb, get_or, Option, None}
use Rattle.numbers.specs.declared.LogicalChannel.{LogicalChannel}
use Rattle.numbers.specs.declared.ChannelNumber.{ChannelNumber}
use Rattle.numbers.specs.declared.UnitNumber.{UnitNumber}
use Rattle.assign_heads.specs.declared.Head.{Head}

-- a logical channel by its number
abbrev pub logical : ℕ → LogicalChannel
logical n = record { 0 = n }

-- unit i is assignable, of the kind
abbrev pub free_at : List Bool → ℕ → Bool
free_at free i = get_or free i false

-- a unit that is given to nothing
abbrev pub blank : Head
blank = record { to = None }

-- to which entry of the kind unit i is given: only units that are assignable are looked at
abbrev pub to_at : List Bool → List Head → ℕ → Option LogicalChannel
to_at free heads i = cond (free_at free i) (get_or heads i blank).to None

-- to which entry a unit of a channel is given; no unit of the cell: to nothing
unfoldable pub given_at : List Head → ChannelNumber → UnitNumber → Option LogicalChannel
given_at heads channel unit = cond (leb channel.0 15 && leb unit.0 15) (get_or heads (channel.0 * 16 + unit.0) blank).to None
