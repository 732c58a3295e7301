-- Which assignment is chosen, and what the assigner answers. A reader has to believe this page.
use Rattle.std.specs.Prelude.{ℕ, ◌<◌, ◌≡◌, length, replicate, Option, Some, None}
use Rattle.numbers.specs.Kinds.{unit_kinds}
use Rattle.assign_core.specs.Core.{Before}
use Rattle.assign_channels.specs.Choice.{LexLe}
use Rattle.assign_heads.specs.Heads.{Lowest}
use Rattle.assign_heads.specs.Whose.{blank}
use Rattle.cards_request.specs.Requests.{counts}
use Rattle.cards_request.specs.declared.Facilities.{Facilities}
use Rattle.assign.specs.declared.Assigned.{Assigned}
use Rattle.assign.specs.declared.Part.{Part}
use Rattle.assign.specs.declared.Provision.{Provision}
use Rattle.assign.specs.Assignment.{Supply, no_channels, channels_of, free_of, given_of, IsAssignment}
use Rattle.assign.specs.Parts.{FirstLacking}

-- the chosen assignment
pub record Chosen (supply : Supply) (wanted : Facilities) (a : Assigned) : Type 0 where
  pub is : IsAssignment supply wanted a
  -- lowest IB start, then lowest DB start
  pub core : (b : Assigned) → IsAssignment supply wanted b → Before b.ib b.db a.ib a.db → ⊥
  -- lowest drum start
  pub drum : (b : Assigned) → IsAssignment supply wanted b → b.drum < a.drum → ⊥
  -- per kind, entries in ascending logical channel take the lexicographically least list of channels that some
  -- assignment has
  pub channels : (kind : ℕ) → kind < unit_kinds → (b : Assigned) → IsAssignment supply wanted b
      → LexLe (channels_of a kind) (channels_of b kind)
  -- lowest units on each; then logical 0 takes the lowest remaining channel and unit numbers
  pub units : (kind : ℕ) → kind < unit_kinds → Lowest (free_of supply kind) (given_of supply kind a)

-- no facility is named
abbrev pub nothing : Assigned
nothing = record { ib = 0; db = 0; drum = 0; channels = replicate unit_kinds no_channels; heads = replicate 256 blank }

-- a part is lacking, and nothing is given
abbrev pub without : Part → Provision
without part = record { lacking = Some part; assigned = nothing }

-- what is answered: the chosen assignment, where nothing is lacking; or the first part that is, and no facility
abbrev pub Answer : Option Part → Supply → Facilities → Assigned → Type 0
Answer None supply wanted a = Chosen supply wanted a
Answer (Some part) supply wanted a = FirstLacking supply wanted (Some part) × (a ≡ nothing)

-- THE ASSIGNER: the chosen assignment, or the first part that is lacking
abbrev pub Assigns : Supply → Facilities → Provision → Type 0
Assigns supply wanted r = Answer r.lacking supply wanted r.assigned

-- AN ASSIGNMENT EXISTS EXACTLY WHEN NOTHING IS LACKING, for 16 channels and a number for each logical channel of each
-- kind, which their types have
pub record ExistsExactly : Type 0 where
  pub only : (supply : Supply) (wanted : Facilities) (b : Assigned) → IsAssignment supply wanted b → FirstLacking supply wanted None
  pub when : (supply : Supply) (wanted : Facilities) → length supply.channels ≡ 16 → length wanted.units ≡ counts
      → FirstLacking supply wanted None → (b : Assigned) × IsAssignment supply wanted b
