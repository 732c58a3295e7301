-- Schedules that the calls build from the empty one, and what is to hold of each.
use Rattle.std.specs.Prelude.{ℕ, ◌≤◌, ◌≡◌, Bool, true, List, [], ◌∷◌, map, length}
use Rattle.numbers.specs.Limits.{most_requests}
use Rattle.cards_request.specs.declared.Request.{Request}
use Rattle.schedule_entries.specs.Entries.{key_of, precedes}
use Rattle.schedule_entries.specs.declared.Entry.{Entry}
use Rattle.schedule_list.specs.InSchedule.{in_schedule, schedule_of}
use Rattle.schedule_list.specs.declared.Schedule.{Schedule}
use Rattle.schedule.specs.Calls.{released, deleted, taken, closing, returned}
use Rattle.schedule_entering.specs.Entering.{entering}

-- the calls on a schedule
pub data Call : Type 0 where
  Enter : Request → Call
  Release : List ℕ → Call
  Delete : List ℕ → Call
  Take : ℕ → ℕ → Call
  Close : ℕ → Call
  Return : ℕ → Bool → Call

-- the schedule after a call, whether it was refused or not
unfoldable pub after : Schedule → Call → Schedule
after s (Call.Enter r) = (entering s r).schedule
after s (Call.Release id) = (released s id).schedule
after s (Call.Delete id) = (deleted s id).schedule
after s (Call.Take k place) = taken s k place
after s (Call.Close place) = closing s place
after s (Call.Return place in_error) = returned s place in_error

-- and after any calls
unfoldable pub after_all : Schedule → List Call → Schedule
after_all s [] = s
after_all s (c ∷ cs) = after_all (after s c) cs

-- each of a list, and each two of it, the earlier first
abbrev pub Each : (Request → Type 0) → List Request → Type 0
Each P [] = Unit {0}
Each P (r ∷ rs) = P r × Each P rs

abbrev pub Pairs : (Request → Request → Type 0) → List Request → Type 0
Pairs R [] = Unit {0}
Pairs R (r ∷ rs) = Each (R r) rs × Pairs R rs

-- two requests have other IDs; one precedes the other, so that they have other keys too
abbrev pub Unlike : Request → Request → Type 0
Unlike a b = a.id ≡ b.id → ⊥

abbrev pub Ahead : Request → Request → Type 0
Ahead a b = precedes (key_of a) (key_of b) ≡ true

abbrev pub requests : List Entry → List Request
requests es = map (λ e. e.request) es

-- IDs are distinct, keys are distinct and in selection order, and there are 64 at most
pub record Orderly (es : List Entry) : Type 0 where
  pub names : Pairs Unlike (requests es)
  pub keys : Pairs Ahead (requests es)
  pub few : length es ≤ most_requests

-- a schedule is the one value that holds its requests, and they are orderly
pub record Sound (s : Schedule) : Type 0 where
  pub whole : s ≡ schedule_of (in_schedule s)
  pub orderly : Orderly (in_schedule s)
