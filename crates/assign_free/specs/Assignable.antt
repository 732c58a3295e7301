-- The assignable units of a kind: configured, free and unmarked. A kind is told by its place in the written order; unit
-- u of channel c stands at c * 16 + u. A reader has to believe this page.
use Rattle.std.specs.Prelude.{ℕ, ◌<◌, ◌/◌, ◌%◌, ◌≡◌, Bool, false, cond, ◌&&◌, List, eqb, ltb, length, get_or, Option, Some, None}
use Rattle.numbers.specs.Kinds.{order_of}
use Rattle.units.specs.declared.Unit.{Unit}
use Rattle.units.specs.State.{unit_in, assignable}
use Rattle.channels.specs.declared.Fitted.{Fitted}
use Rattle.channels.specs.declared.Channel.{Channel}
use Rattle.channels.specs.Channels.{no_channel, units_of}

-- a channel has the kind at this place of the order
abbrev pub is_fitted : ℕ → Option Fitted → Bool
is_fitted order None = false
is_fitted order (Some its) = eqb (order_of its.kind) order

-- a channel's units of a kind: as many as it has, the drum none; none on a channel of another kind
abbrev pub units_of_kind : ℕ → Channel → ℕ
units_of_kind order channel = cond (is_fitted order channel.has) (units_of channel) 0

-- unit i is of a kind and assignable
unfoldable pub is_free_of : List (List Unit) → List Channel → ℕ → ℕ → Bool
is_free_of units channels order i =
    ltb (i % 16) (units_of_kind order (get_or channels (i / 16) no_channel)) && assignable (unit_in units (i / 16) (i % 16))

-- the assignable units of a kind, marked
pub record FreeUnits (units : List (List Unit)) (channels : List Channel) (order : ℕ) (free : List Bool) : Type 0 where
  pub long : length free ≡ 256
  pub each : (i : ℕ) → i < 256 → get_or free i false ≡ is_free_of units channels order i
