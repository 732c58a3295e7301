-- The candidates: the requests from which the selection takes the first that has an assignment.
use Rattle.std.specs.Prelude.{ℕ, ◌≤◌, ◌<◌, ◌≡◌, Bool, false, ◌&&◌, not, List, length, get_or}
use Rattle.numbers.specs.Elements.{any}
use Rattle.numbers.specs.Limits.{most_requests}
use Rattle.schedule_entries.specs.Entries.{key_of, lower_sequence, waiting, active, serial}
use Rattle.schedule_entries.specs.declared.Entry.{Entry}
use Rattle.schedule_list.specs.InSchedule.{entry_at}

-- some job runs or closes: "an S-type job is a candidate only when no job runs or closes"
abbrev pub running : List Entry → Bool
running es = any (λ e. active e.state) es

-- an S-type job runs or closes: "while one runs or closes, nothing is" a candidate
abbrev pub running_alone : List Entry → Bool
running_alone es = any (λ e. active e.state && serial e.request) es

-- a "request of the same letter and precedence with a lower sequence stands in the schedule"
abbrev pub lower_stands : List Entry → Entry → Bool
lower_stands es e = any (λ f. lower_sequence (key_of f.request) (key_of e.request)) es

-- A CANDIDATE: it waits, none with a lower sequence stands, no S-type job runs, and if it is an S-type job no job runs
unfoldable pub candidate : List Entry → Entry → Bool
candidate es e = waiting e.state && (not (lower_stands es e) && (not (running_alone es) && not (serial e.request && running es)))

-- the marks of the candidates, by index in the schedule: none past the last
pub record Marks (es : List Entry) (marks : List Bool) : Type 0 where
  pub long : length marks ≡ most_requests
  pub each : (k : ℕ) → k < length es → get_or marks k false ≡ candidate es (entry_at es k)
  pub rest : (k : ℕ) → length es ≤ k → get_or marks k false ≡ false
