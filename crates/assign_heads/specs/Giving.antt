-- How units are given: in ascending order, each to its channel's entry while that lacks some, else to logical channel
-- 0 while that does. Nothing here has to be believed: private functions cite it, and Serving says what comes out.
use Rattle.std.specs.Prelude.{ℕ, ◌-◌, ◌≤◌, ◌<◌, ◌*◌, ◌+◌, ◌≡◌, Bool, cond, List, ltb, length, get_or, set, Option, Some, None}
use Rattle.numbers.specs.declared.LogicalChannel.{LogicalChannel}
use Rattle.numbers.specs.declared.ChannelNumber.{ChannelNumber}
use Rattle.assign_channels.specs.declared.ByChannel.{ByChannel}
use Rattle.assign_channels.specs.declared.ByLogical.{ByLogical}
use Rattle.assign_channels.specs.Choice.{by_logical, count_at, want, on}
use Rattle.assign_heads.specs.Sums.{how_many}
use Rattle.assign_heads.specs.Whose.{logical, free_at}

-- the entry that a channel's next unit goes to, when its own entry is `own` and `left` says what each still lacks
abbrev pub taker_of : ByLogical → LogicalChannel → Option LogicalChannel
taker_of left own = cond (ltb 0 (want left own.0)) (Some own) (cond (ltb 0 (want left 0)) (Some (logical 0)) None)

-- what each still lacks then
abbrev pub less_of : ByLogical → Option LogicalChannel → ByLogical
less_of left None = left
less_of left (Some l) = by_logical (set left.0 l.0 (want left l.0 - 1))

-- the logical channel of the entry that has a channel, 0 for none
pub record OwnerIs (wants : ByLogical) (channels : List ChannelNumber) (c o : ℕ) : Type 0 where
  pub below : o < 16
  pub asks : 1 ≤ o → 1 ≤ want wants o
  pub there : 1 ≤ o → on channels o ≡ c
  pub none : o ≡ 0 → (l : ℕ) → 1 ≤ l → l < 16 → 1 ≤ want wants l → on channels l ≡ c → ⊥

-- the entry of each channel
pub record Owners (wants : ByLogical) (channels : List ChannelNumber) (own : List LogicalChannel) : Type 0 where
  pub each : (c : ℕ) → c < 16 → OwnerIs wants channels c (get_or own c (logical 0)).0

-- how many assignable units each channel has
pub record FreeCounts (free : List Bool) (counts : ByChannel) : Type 0 where
  pub long : length counts.0 ≡ 16
  pub each : (c : ℕ) → c < 16 → count_at counts c ≡ how_many 16 (λ u. free_at free (c * 16 + u))
