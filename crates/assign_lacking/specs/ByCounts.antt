-- The parts of an assignment and the first that is lacking, by what is counted and held. For a supply that is counted so
-- this is what crates/assign/specs/Parts.antt says of it (proofs/InCellLaws: in-cell).
use Rattle.std.specs.Prelude.{ℕ, ◌≡◌, List, Option}
use Rattle.std.proofs.Math.ListN as N
use Rattle.numbers.specs.Kinds.{order_of}
use Rattle.numbers.specs.declared.ChannelNumber.{ChannelNumber}
use Rattle.assign_drum.specs.declared.Area.{Area}
use Rattle.assign_channels.specs.declared.ByChannel.{ByChannel}
use Rattle.assign_channels.specs.declared.ByLogical.{ByLogical}
use Rattle.assign_channels.specs.Choice.{Placed}
use Rattle.assign_counts.specs.declared.Counts.{Counts}
use Rattle.assign_counts.specs.Assignable.{counts_of}
use Rattle.cards_request.specs.Requests.{counts as many}
use Rattle.cards_request.specs.declared.Facilities.{Facilities}
use Rattle.assign.specs.Assignment.{wants_of}
use Rattle.assign.specs.Parts.{HasCore, HasDrum, FirstOf, parts}
use Rattle.assign.specs.declared.Part.{Part}
use Rattle.assign.specs.declared.Part.TheVariants.{Core, Drum, Units}

-- a kind, by the number of assignable units on each channel: its entries can have channels
pub record Servable (counts : ByChannel) (wants : ByLogical) : Type 0 where
  pub channels : List ChannelNumber
  pub placed : Placed counts wants channels

-- a kind's units are there, by the counts of all kinds; core and drum count as there
abbrev pub HasUnits : Counts → Facilities → Part → Type 0
HasUnits counts wanted (Units kind) = Servable (counts_of counts (order_of kind)) (wants_of wanted (order_of kind))
HasUnits counts wanted Core = Unit {0}
HasUnits counts wanted Drum = Unit {0}

-- a part is there, by the counts, the occupancy word, the areas that are held and the drum's length
abbrev pub HasBy : Counts → ℕ → List Area → ℕ → Facilities → Part → Type 0
HasBy counts occupancy areas length wanted Core = HasCore occupancy wanted
HasBy counts occupancy areas length wanted Drum = HasDrum areas length wanted
HasBy counts occupancy areas length wanted (Units kind) = HasUnits counts wanted (Units kind)

-- what is answered: the first part that is lacking. (And a fact of what is handed over, which callers need: the
-- request's table has a number for each logical channel of each kind.)
pub record LackingByCounts (counts : Counts) (occupancy : ℕ) (areas : List Area) (length : ℕ) (wanted : Facilities) (r : Option Part) : Type 0 where
  pub first : FirstOf (HasBy counts occupancy areas length wanted) parts r
  pub full : N.length wanted.units ≡ many
