-- What the exported functions answer where the functions that they call answer an enum, which C has no type for.
use Rattle.std.specs.Prelude.{ℕ, ◌≡◌, Bool, true, false, List, None, Option, Some, Result, Ok, Err}
use Rattle.numbers.specs.Refusals.{number_of}
use Rattle.numbers.specs.declared.Kind.{Kind}
use Rattle.numbers.specs.declared.Refusal.{Refusal}
use Rattle.configuration.specs.Configured.{Answer}
use Rattle.functions.specs.Legal.{legal_of}
use Rattle.assign_core.specs.Core as Core
use Rattle.desk_show.specs.Showing.{part_of, Shows}
use Rattle.desk_show.specs.declared.Extent.{Extent}
use Rattle.desk_show.specs.declared.Which.{Which}
use Rattle.desk_show.specs.declared.Which.TheVariants.{Repair, Day}

-- an answer as one number: the line of a bad configuration, 0 for a good one
abbrev pub bad_line_of : Answer → ℕ
bad_line_of (Ok configuration) = 0
bad_line_of (Err line) = line.0

-- a function is legal on a kind that two letters name; where they name none it is not
abbrev pub legal_by : Option Kind → ℕ → Bool
legal_by (Some kind) code = legal_of kind code
legal_by None code = false

-- the starts of a job's core. Where a pair fits, the least is put in place of i and j; where none fits, both are kept
pub record Placed (taken ib db i j i' j' : ℕ) (r : Bool) : Type 0 where
  pub found : r ≡ true → Core.LeastPair taken ib db (Some (record { 0 = i'; 1 = j' }))
  pub none : r ≡ false → Core.LeastPair taken ib db None × (i' ≡ i) × (j' ≡ j)

-- "0, 11 or 22": a refusal's number, 0 where a deck has the group
abbrev pub refusal_of : Result Which Refusal → ℕ
refusal_of (Ok which) = 0
refusal_of (Err refusal) = number_of refusal

-- the number of a deck: 1 the repair deck and 2 the day's
abbrev pub deck_number : Which → ℕ
deck_number Repair = 1
deck_number Day = 2

-- the number of the deck that has it. Where there is a refusal, what was held is kept
abbrev pub deck_or : ℕ → Result Which Refusal → ℕ
deck_or kept (Ok which) = deck_number which
deck_or kept (Err refusal) = kept

-- what is put there; where there is a refusal, what was held is kept
abbrev pub put_or : ℕ → ℕ → Result Which Refusal → ℕ
put_or kept put (Ok which) = put
put_or kept put (Err refusal) = kept

-- a request's own cards, as a deck, an offset and a length in it
pub record Located (id repair day : List ℕ) (deck from length deck' from' length' : ℕ) (r : ℕ) : Type 0 where
  pub found : Extent
  pub shows : Shows id repair day found (part_of found repair day)
  pub number : r ≡ refusal_of found.which
  pub which : deck' ≡ deck_or deck found.which
  pub start : from' ≡ put_or from found.from found.which
  pub long : length' ≡ put_or length found.len found.which
