-- What the deck program prints, and what entering a deck into a schedule makes of the schedule and answers.
use Rattle.std.specs.Prelude.{ℕ, List, [], ◌∷◌, ◌++◌, get_or, Result, Ok, Err}
use Rattle.numbers.specs.Quoted.{bytes}
use Rattle.numbers.specs.declared.Refusal.{Refusal}
use Rattle.cards_fields.specs.Fields.{spaceless}
use Rattle.cards_fields.specs.Deck.{deck_end, deck_groups}
use Rattle.cards_fields.specs.Deck.{DeckEnd}
use Rattle.cards_lines.specs.Shown.{shown_by, error_line, refused_text}
use Rattle.cards_group.specs.Group.{read_group}
use Rattle.cards_request.specs.Errors.{CardVerdict}
use Rattle.cards_request.specs.declared.Request.{Request}
use Rattle.cards_group.specs.declared.Reading.{Reading}
use Rattle.cards_writing.specs.Writing.{priority_text}
use Rattle.schedule_entries.specs.declared.Entry.{Entry}
use Rattle.schedule_list.specs.InSchedule.{in_schedule, schedule_of}
use Rattle.schedule_list.specs.declared.Schedule.{Schedule}
use Rattle.schedule_entering.specs.Entering.{entering, Entering}
use Rattle.schedule_deck.specs.declared.Progress.{Progress}

-- a request of the schedule: its ID and its priority
abbrev pub request_line : Request → List ℕ
request_line r = spaceless r.id ++ (bytes " " ++ (priority_text r ++ bytes "\n"))

-- "the schedule in selection order, suspended requests included"
abbrev pub schedule_text : List Entry → List ℕ
schedule_text [] = []
schedule_text (e ∷ es) = request_line e.request ++ schedule_text es

-- "then the last good ID"
abbrev pub last_line : List ℕ → List ℕ
last_line id = spaceless id ++ bytes " SCH ACK\n"

-- what has been read before the first group: the schedule as it stands; "six hyphens if none"
abbrev pub begin : Schedule → Progress
begin s = record { schedule = s; shown = bytes "------"; last = bytes "------" }

-- a group's own error, or what entering its request answers
abbrev pub tried_by : CardVerdict → Schedule → Request → Entering
tried_by (Ok tt) s r = entering s r
tried_by (Err e) s r = record { verdict = Err e; schedule = s }

abbrev pub tried : Schedule → Reading → Entering
tried s reading = tried_by reading.verdict s reading.request

-- an error has its line
abbrev pub line_by : CardVerdict → List ℕ → List ℕ
line_by (Ok tt) shown = []
line_by (Err e) shown = error_line shown e

-- the request of a group without error is the last good one
abbrev pub last_by : CardVerdict → List ℕ → List ℕ → List ℕ
last_by (Ok tt) last id = id
last_by (Err e) last id = last

-- ONE GROUP: the ID shown, what trying it answers, its line, and what has been read then
abbrev pub shown_at : Progress → List (List ℕ) → List ℕ
shown_at p cards = shown_by (get_or cards 0 []) p.shown

abbrev pub tried_at : Progress → List (List ℕ) → Entering
tried_at p cards = tried p.schedule (read_group cards)

unfoldable pub group_text : Progress → List (List ℕ) → List ℕ
group_text p cards = line_by (tried_at p cards).verdict (shown_at p cards)

unfoldable pub after : Progress → List (List ℕ) → Progress
after p cards = record {
  schedule = (tried_at p cards).schedule;
  shown = shown_at p cards;
  last = last_by (tried_at p cards).verdict p.last (read_group cards).request.id;
}

-- "errors (numbers unpadded) in deck order", and what has been read after the last group
abbrev pub errors_from : Progress → List (List (List ℕ)) → List ℕ
errors_from p [] = []
errors_from p (g ∷ gs) = group_text p g ++ errors_from (after p g) gs

abbrev pub end_from : Progress → List (List (List ℕ)) → Progress
end_from p [] = p
end_from p (g ∷ gs) = end_from (after p g) gs

-- THE REPORT, read "into an empty schedule": "errors .. in deck order, then the schedule in selection order .., then
-- the last good ID"
abbrev pub closing_text : Progress → List ℕ
closing_text p = schedule_text (in_schedule p.schedule) ++ last_line p.last

unfoldable pub report_text : List (List (List ℕ)) → List ℕ
report_text gs = errors_from (begin (schedule_of [])) gs ++ closing_text (end_from (begin (schedule_of [])) gs)

abbrev pub text_by : DeckEnd → List ℕ → List ℕ
text_by (Ok n) s = report_text (deck_groups s)
text_by (Err refusal) s = refused_text refusal

-- WHAT THE DECK PROGRAM PRINTS
abbrev pub deck_text : List ℕ → List ℕ
deck_text s = text_by (deck_end s) s

-- ENTERING A DECK into a schedule that may hold requests already. The answer "the deck program's error lines, then
-- `id SCH ACK`", the schedule that follows, and how the call ends. A refused deck leaves the schedule as it was and puts
-- nothing
unfoldable pub notes_text : Schedule → List (List (List ℕ)) → List ℕ
notes_text schedule gs = errors_from (begin schedule) gs ++ last_line (end_from (begin schedule) gs).last

abbrev pub notes_by : DeckEnd → Schedule → List ℕ → List ℕ
notes_by (Ok n) schedule s = notes_text schedule (deck_groups s)
notes_by (Err refusal) schedule s = []

abbrev pub schedule_by : DeckEnd → Schedule → List ℕ → Schedule
schedule_by (Ok n) schedule s = (end_from (begin schedule) (deck_groups s)).schedule
schedule_by (Err refusal) schedule s = schedule

abbrev pub outcome_by : DeckEnd → Result (Unit {0}) Refusal
outcome_by (Ok n) = Ok tt
outcome_by (Err refusal) = Err refusal

abbrev pub deck_notes : Schedule → List ℕ → List ℕ
deck_notes schedule s = notes_by (deck_end s) schedule s

abbrev pub deck_schedule : Schedule → List ℕ → Schedule
deck_schedule schedule s = schedule_by (deck_end s) schedule s

abbrev pub deck_outcome : List ℕ → Result (Unit {0}) Refusal
deck_outcome s = outcome_by (deck_end s)
