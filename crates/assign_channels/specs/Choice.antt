-- Which channels a kind's entries get. It goes by the number of assignable units of the kind on each channel (`counts`;
-- 0 on a channel of another kind). And it goes by what the entry with each logical channel asks for (`wants`). A reader
-- has to believe this page.
use Rattle.std.specs.Prelude.{ℕ, ◌+◌, ◌≤◌, ◌<◌, ◌≡◌, ◌⊎◌, List, [], ◌∷◌, Bool, true, false, length, get_or, replicate}
use Rattle.numbers.specs.declared.ChannelNumber.{ChannelNumber}
use Rattle.assign_channels.specs.declared.ByChannel.{ByChannel}
use Rattle.assign_channels.specs.declared.ByLogical.{ByLogical}
use Rattle.assign_channels.specs.declared.Picks.{Picks}

-- a channel by its number
abbrev pub channel : ℕ → ChannelNumber
channel n = record { 0 = n }

-- a table by channel, and one by logical channel
abbrev pub by_channel : List ℕ → ByChannel
by_channel ns = record { 0 = ns }

abbrev pub by_logical : List ℕ → ByLogical
by_logical ns = record { 0 = ns }

-- the number of units that a channel has
abbrev pub count_at : ByChannel → ℕ → ℕ
count_at counts c = get_or counts.0 c 0

-- the number of units that the entry with a logical channel asks for, 0 where there is none
abbrev pub want : ByLogical → ℕ → ℕ
want wants l = get_or wants.0 l 0

-- the number of the channel that it gets
abbrev pub on : List ChannelNumber → ℕ → ℕ
on channels l = (get_or channels l (channel 0)).0

-- all numbers of a list together
abbrev pub total : List ℕ → ℕ
total [] = 0
total (n ∷ ns) = n + total ns

-- The channels of the entries of an assignment.
pub record Placed (counts : ByChannel) (wants : ByLogical) (channels : List ChannelNumber) : Type 0 where
  pub long : length channels ≡ 16
  -- every entry with logical channel 1-15 has all its units on its channel
  pub fits : (l : ℕ) → 1 ≤ l → l < 16 → 1 ≤ want wants l → want wants l ≤ count_at counts (on channels l)
  -- a channel of its own
  pub own : (l m : ℕ) → 1 ≤ l → l < m → m < 16 → 1 ≤ want wants l → 1 ≤ want wants m → on channels l ≡ on channels m → ⊥
  -- the logical channel 0 entry has any remaining units
  pub rest : total wants.0 ≤ total counts.0
  -- no channel is named, 0 stands there, for logical channel 0 and for one without entry
  pub none-0 : on channels 0 ≡ 0
  pub none : (l : ℕ) → 1 ≤ l → l < 16 → want wants l ≡ 0 → on channels l ≡ 0

-- a list of channels is the lexicographically lower of two, or they are the same
abbrev pub LexLe : List ChannelNumber → List ChannelNumber → Type 0
LexLe [] ys = Unit {0}
LexLe (x ∷ xs) [] = ⊥
LexLe (x ∷ xs) (y ∷ ys) = (x.0 < y.0) ⊎ ((x.0 ≡ y.0) × LexLe xs ys)

-- the lexicographically least list, in ascending logical channel
pub record Least (counts : ByChannel) (wants : ByLogical) (channels : List ChannelNumber) : Type 0 where
  pub placed : Placed counts wants channels
  pub least : (others : List ChannelNumber) → Placed counts wants others → LexLe channels others

-- no list
pub record NoList (counts : ByChannel) (wants : ByLogical) (channels : List ChannelNumber) : Type 0 where
  pub never : (others : List ChannelNumber) → Placed counts wants others → ⊥
  pub blank : channels ≡ replicate 16 (channel 0)

-- what is answered: yes with the least list, or no
abbrev pub Answer : Bool → ByChannel → ByLogical → List ChannelNumber → Type 0
Answer true counts wants channels = Least counts wants channels
Answer false counts wants channels = NoList counts wants channels

-- the least list is found, or there is none
abbrev pub LeastList : ByChannel → ByLogical → Picks → Type 0
LeastList counts wants r = Answer r.ok counts wants r.on
