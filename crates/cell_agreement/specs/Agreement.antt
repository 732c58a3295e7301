-- THE SCHEDULE AND THE JOB PLACES AGREE in every cell that a history leads to. The schedule is sound, and every running
-- or closing job has exactly one request in it. Every request shown as running or closing has its job in that place. A
-- reader has to believe this page.
use Rattle.std.specs.Prelude.{ℕ, ◌≤◌, ◌<◌, ◌≡◌, true, List, [], ◌∷◌, map, length}
use Rattle.channels.specs.declared.Configuration.{Configuration}
use Rattle.schedule_entries.specs.Entries.{in_place}
use Rattle.schedule_entries.specs.declared.Entry.{Entry}
use Rattle.schedule_entries.specs.declared.State.{State as RequestState}
use Rattle.schedule_entries.specs.declared.State.TheVariants as Request
use Rattle.schedule_list.specs.InSchedule.{entry_at, in_schedule}
use Rattle.schedule_orderly.specs.Orderly.{Sound}
use Rattle.numbers.specs.Elements.{keep}
use Rattle.packets.specs.State.{is_closing, state_in}
use Rattle.packets.specs.declared.Job.{Job}
use Rattle.packets.specs.declared.JobState.{JobState}
use Rattle.packets.specs.declared.JobState.TheVariants.{ClosingError, ClosingNormal, Empty, Running}
use Rattle.cell.specs.declared.Cell.{Cell}
use Rattle.cell_history.specs.History.{Event, Reached}

-- the states of those requests whose job runs or closes in place j
abbrev pub states_in : ℕ → List Entry → List RequestState
states_in j es = keep (in_place j) (map (λ (e : Entry). e.state) es)

-- what they are by the place itself: none where it is empty. One that runs there where its job runs, one that closes
-- there where its job closes
abbrev pub standing : JobState → ℕ → List RequestState
standing Empty j = []
standing Running j = Request.Running j ∷ []
standing ClosingNormal j = Request.Closing j ∷ []
standing ClosingError j = Request.Closing j ∷ []

-- a request shown as running or closing in a place has its job there, running or closing
abbrev pub HasItsJob : List Job → RequestState → Type 0
HasItsJob jobs Request.Waiting = Unit {0}
HasItsJob jobs Request.Suspended = Unit {0}
HasItsJob jobs (Request.Running p) = (p < 16) × (state_in jobs p ≡ Running)
HasItsJob jobs (Request.Closing p) = (p < 16) × (is_closing (state_in jobs p) ≡ true)

-- schedule and places agree: place by place, no request being in a place that there is not, and request by request
pub record Agrees (c : Cell) : Type 0 where
  pub places : (j : ℕ) → j < 16 → states_in j (in_schedule c.schedule) ≡ standing (state_in c.lists.jobs j) j
  pub beyond : (j : ℕ) → 16 ≤ j → states_in j (in_schedule c.schedule) ≡ []
  pub requests : (k : ℕ) → k < length (in_schedule c.schedule) → HasItsJob c.lists.jobs (entry_at (in_schedule c.schedule) k).state

-- what holds of every reached cell
abbrev pub Always : (Cell → Type 0) → Type 0
Always P = (configuration : Configuration) (es : List Event) (c : Cell) → Reached configuration es c → P c

-- THE SCHEDULE IS SOUND: IDs and keys are distinct, the requests are in selection order, 64 at most. It is the one
-- value that holds them
abbrev pub SoundAlways : Type 0
SoundAlways = Always (λ (c : Cell). Sound c.schedule)

-- SCHEDULE AND PLACES AGREE
abbrev pub AgreesAlways : Type 0
AgreesAlways = Always Agrees
