-- What serving a kind's entries answers: the least list of channels and the lowest units on them, or nothing. A
-- reader has to believe this page.
use Rattle.std.specs.Prelude.{ℕ, ◌≡◌, Bool, true, false, List, length, get_or, replicate, Option}
use Rattle.numbers.specs.declared.LogicalChannel.{LogicalChannel}
use Rattle.numbers.specs.declared.ChannelNumber.{ChannelNumber}
use Rattle.assign_channels.specs.declared.ByLogical.{ByLogical}
use Rattle.assign_channels.specs.Choice.{channel, want, on, LexLe}
use Rattle.assign_heads.specs.declared.Head.{Head}
use Rattle.assign_heads.specs.declared.Service.{Service}
use Rattle.assign_heads.specs.Heads.{Served, Lowest}
use Rattle.assign_heads.specs.Whose.{free_at, blank, to_at}

-- some assignment has this list of channels
pub record Possible (free : List Bool) (wants : ByLogical) (channels : List ChannelNumber) : Type 0 where
  pub long : length channels ≡ 16
  pub to : ℕ → Option LogicalChannel
  pub served : Served (free_at free) (want wants) (on channels) to

-- served: the least list of channels that some assignment has, the lowest units; the units of other kinds keep what
-- they were given to
pub record Chosen (free : List Bool) (wants : ByLogical) (before : List Head) (channels : List ChannelNumber)
    (heads : List Head) : Type 0 where
  pub long : length channels ≡ 16
  pub wide : length heads ≡ 256
  pub served : Served (free_at free) (want wants) (on channels) (to_at free heads)
  pub least : (others : List ChannelNumber) → Possible free wants others → LexLe channels others
  pub lowest : Lowest (free_at free) (to_at free heads)
  pub kept : (i : ℕ) → free_at free i ≡ false → get_or heads i blank ≡ get_or before i blank

-- not served: no assignment has any list of channels
pub record Lacking (free : List Bool) (wants : ByLogical) (before : List Head) (channels : List ChannelNumber)
    (heads : List Head) : Type 0 where
  pub never : (others : List ChannelNumber) → Possible free wants others → ⊥
  pub none : channels ≡ replicate 16 (channel 0)
  pub same : heads ≡ before

-- what is answered: served or not
abbrev pub Answer : Bool → List Bool → ByLogical → List Head → List ChannelNumber → List Head → Type 0
Answer true = Chosen
Answer false = Lacking

-- a service is right
abbrev pub Serves : List Bool → ByLogical → List Head → Service → Type 0
Serves free wants before r = Answer r.ok free wants before r.on r.heads
