-- The parts of an assignment, each alone, and the first that is lacking. A reader has to believe this page.
use Rattle.std.specs.Prelude.{ℕ, ◌≡◌, List, [], ◌∷◌, map, ◌⊎◌, Option, Some, None}
use Rattle.numbers.specs.declared.LogicalChannel.{LogicalChannel}
use Rattle.numbers.specs.Kinds.{in_order, order_of}
use Rattle.assign_core.specs.Core as Cores
use Rattle.assign_drum.specs.Drum as Drums
use Rattle.assign_drum.specs.declared.Area.{Area}
use Rattle.assign_channels.specs.Choice.{want}
use Rattle.assign_heads.specs.Heads.{Served}
use Rattle.cards_request.specs.declared.Facilities.{Facilities}
use Rattle.assign.specs.declared.Part.{Part}
use Rattle.assign.specs.declared.Part.TheVariants.{Core, Drum, Units}
use Rattle.assign.specs.Assignment.{Supply, drum_length, wants_of, free_of}

-- core: a pair of starts fits
pub record HasCore (occupancy : ℕ) (wanted : Facilities) : Type 0 where
  pub ib : ℕ
  pub db : ℕ
  pub fits : Cores.Fits occupancy wanted.ib wanted.db ib db

-- drum: a start fits
pub record HasDrum (areas : List Area) (length : ℕ) (wanted : Facilities) : Type 0 where
  pub start : ℕ
  pub fits : Drums.Fits areas length wanted.md start

-- a kind: its entries are served in some way, whatever the other kinds
pub record HasKind (supply : Supply) (wanted : Facilities) (order : ℕ) : Type 0 where
  pub on : ℕ → ℕ
  pub to : ℕ → Option LogicalChannel
  pub served : Served (free_of supply order) (want (wants_of wanted order)) on to

-- a part alone has a solution in this supply; it is lacking where it has none
abbrev pub Has : Supply → Facilities → Part → Type 0
Has supply wanted Core = HasCore supply.occupancy wanted
Has supply wanted Drum = HasDrum supply.areas (drum_length supply.channels) wanted
Has supply wanted (Units kind) = HasKind supply wanted (order_of kind)

-- the kinds that have units, as parts
abbrev pub kinds : List Part
kinds = map (λ kind. Units kind) in_order

-- the parts "in the order core, drum, MA, MT, PR", and the others "after PR"
abbrev pub parts : List Part
parts = Core ∷ Drum ∷ kinds

-- the first of some parts that is not there; nothing is lacking where all are
abbrev pub FirstOf : (Part → Type 0) → List Part → Option Part → Type 0
FirstOf has [] r = r ≡ None
FirstOf has (p ∷ ps) r = ((has p → ⊥) × (r ≡ Some p)) ⊎ (has p × FirstOf has ps r)

-- what is lacking first in this supply for what a job asks for
abbrev pub FirstLacking : Supply → Facilities → Option Part → Type 0
FirstLacking supply wanted r = FirstOf (Has supply wanted) parts r
