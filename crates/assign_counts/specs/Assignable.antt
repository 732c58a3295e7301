-- The assignable units counted: how many of a kind each channel has.
use Rattle.std.specs.Prelude.{ℕ, ◌+◌, ◌*◌, ◌<◌, ◌≡◌, ◌&&◌, List, [], ltb, length, get_or, Option, Some, None}
use Rattle.numbers.specs.Kinds.{order_of, unit_kinds}
use Rattle.units.specs.declared.Unit.{Unit}
use Rattle.units.specs.State.{unit_in, assignable}
use Rattle.channels.specs.declared.Fitted.{Fitted}
use Rattle.channels.specs.declared.Channel.{Channel}
use Rattle.assign_channels.specs.declared.ByChannel.{ByChannel}
use Rattle.assign_channels.specs.Choice.{by_channel, count_at}
use Rattle.assign_heads.specs.Sums.{how_many}
use Rattle.assign_free.specs.Assignable.{is_free_of}
use Rattle.assign_counts.specs.declared.Counts.{Counts}

-- how many units of a kind, told by its place in the written order, are assignable on channel c
abbrev pub count_on : List (List Unit) → List Channel → ℕ → ℕ → ℕ
count_on units channels order c = how_many 16 (λ u. is_free_of units channels order (c * 16 + u))

-- the counts of a kind, by channel
abbrev pub counts_of : Counts → ℕ → ByChannel
counts_of counts order = get_or counts.0 order (by_channel [])

-- the counts of the kinds that have units
pub record Counted (units : List (List Unit)) (channels : List Channel) (counts : Counts) : Type 0 where
  pub kinds : length counts.0 ≡ unit_kinds
  pub long : (order : ℕ) → order < unit_kinds → length (counts_of counts order).0 ≡ 16
  pub each : (order c : ℕ) → order < unit_kinds → c < 16 → count_at (counts_of counts order) c ≡ count_on units channels order c

-- the place in the order of the kind that a channel has; behind the last, the drum's, where it has nothing
abbrev pub order_in : Option Fitted → ℕ
order_in None = unit_kinds
order_in (Some its) = order_of its.kind

-- how many of the first n units of channel c are assignable
pub record AssignableOn (grid : List (List Unit)) (c n r : ℕ) : Type 0 where
  pub is : r ≡ how_many 16 (λ u. ltb u n && assignable (unit_in grid c u))
  pub few : r < 17
