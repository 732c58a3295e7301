-- Every call on the cell: what it answers, and what schedule and lists then hold. A reader has to believe this page. It
-- puts together the pages of the schedule's calls, of selection, of the request lists and of keyboard messages.
use Rattle.std.specs.Prelude.{ℕ, ◌≡◌, true, false, List, [], Result, Ok, Err}
use Rattle.numbers.specs.declared.Refusal.{Refusal}
use Rattle.numbers.specs.declared.Refusal.TheVariants as Refusals
use Rattle.text.specs.Room.{Whole}
use Rattle.channels.specs.declared.Configuration.{Configuration}
use Rattle.units.specs.declared.Mark.TheVariants.{Down}
use Rattle.configuration_units.specs.Fresh.{fresh_units}
use Rattle.schedule_list.specs.InSchedule.{schedule_of}
use Rattle.schedule_list.specs.declared.Schedule.{Schedule}
use Rattle.schedule.specs.Calls.{closing, deleted, released, returned}
use Rattle.schedule.specs.declared.Changed.{Changed}
use Rattle.schedule_deck.specs.Reading.{DeckEntered}
use Rattle.packets.specs.History.{fresh}
use Rattle.packets.specs.Rules.{Do}
use Rattle.packets.specs.declared.Act.{Act}
use Rattle.packets.specs.declared.Act.TheVariants.{Mark}
use Rattle.packets.specs.declared.Answer.{Answer}
use Rattle.packets.specs.declared.Answer.TheVariants.{Closed, Completed, Done, Refused, Started}
use Rattle.packets.specs.declared.Leaving.{Leaving}
use Rattle.packets.specs.declared.Leaving.TheVariants.{AfterError, AfterNormal, Stays}
use Rattle.packets.specs.declared.Lists.{Lists}
use Rattle.packets.specs.declared.Status.{Status}
use Rattle.lists.specs.Outcomes.{lists_of, outcome, status_in}
use Rattle.keyboard.specs.Messages.{read_message}
use Rattle.keyboard.specs.declared.Asked.{Asked}
use Rattle.keyboard.specs.declared.Asked.TheVariants as Asked'
use Rattle.keyboard_answers.specs.MessageAnswers.{answer_text}
use Rattle.cell_selection.specs.Selecting.{Takes}
use Rattle.cell_selection.specs.declared.Choice.{Choice}
use Rattle.cell_selection.specs.declared.Choice.TheVariants.{Job, NoPlace, NoCandidates, Lacks}
use Rattle.cell.specs.declared.Answered.{Answered}
use Rattle.cell.specs.declared.Cell.{Cell}
use Rattle.cell.specs.declared.DeckAnswer.{DeckAnswer}
use Rattle.cell.specs.declared.Heeded.{Heeded}
use Rattle.cell.specs.declared.KeyAnswer.{KeyAnswer}
use Rattle.cell.specs.declared.SelectAnswer.{SelectAnswer}

-- how a call ends: it is done, or refused
abbrev pub Outcome : Type 0
Outcome = Result (Unit {0}) Refusal

abbrev pub cell_of : Schedule → Lists → Cell
cell_of schedule lists = record { schedule = schedule; lists = lists }

-- the fresh cell of a configuration: an empty schedule, no job, every unit free, down where the configuration says so;
-- its codes set interlock
unfoldable pub fresh_cell : Configuration → Cell
fresh_cell configuration =
    cell_of (schedule_of []) (lists_of (fresh configuration.channels configuration.codes (fresh_units configuration.down)))

-- ---- the calls on packets, jobs and marks: what the request lists say, and the schedule follows

-- "all facilities return together, and only then a normal end removes its request; an error end suspends it .., else
-- removes it"
abbrev pub left_by : Leaving → Schedule → ℕ → Schedule → Schedule
left_by Stays s place otherwise = otherwise
left_by AfterNormal s place otherwise = returned s place false
left_by AfterError s place otherwise = returned s place true

-- the schedule follows the answer. A completion may have returned its job's facilities. A job that has ended is closing,
-- unless its facilities returned at once
abbrev pub followed : Schedule → Answer → Schedule
followed s Done = s
followed s (Started b) = s
followed s (Completed place packet leaving) = left_by leaving s place s
followed s (Closed place leaving) = left_by leaving s place (closing s place)
followed s (Refused n) = s

-- SUBMIT, START, COMPLETE, END, RETURN, MARK
unfoldable pub acted : Cell → Act → Answered
acted cell x =
    let next = outcome cell.lists (Do x) in
    record { answer = next.answer; cell = cell_of (followed cell.schedule next.answer) next.lists }

-- ---- the calls on the schedule alone

abbrev pub answer_of : Outcome → Answer
answer_of (Ok u) = Done
answer_of (Err n) = Refused n

abbrev pub changed : Cell → Changed → Answered
changed cell c = record { answer = answer_of c.outcome; cell = cell_of c.schedule cell.lists }

-- RELEASE, DELETE
abbrev pub releasing : Cell → List ℕ → Answered
releasing cell id = changed cell (released cell.schedule id)

abbrev pub deleting : Cell → List ℕ → Answered
deleting cell id = changed cell (deleted cell.schedule id)

-- ENTER A DECK: the error lines and the last line in the lent room, the schedule that follows. A refused deck changes
-- nothing and puts nothing
pub record Enters (cell : Cell) (bytes room after· : List ℕ) (r : DeckAnswer) : Type 0 where
  pub deck : DeckEntered cell.schedule bytes room after· (record { outcome = r.outcome; schedule = r.cell.schedule; at = r.at })
  pub lists : r.cell.lists ≡ cell.lists

-- SELECT: where nothing is selected 18, "no place is free", 19, "there are no candidates", or 20, "there are some".
-- With 20 the selection has the first candidate's ID and the part that is lacking
abbrev pub outcome_of : Choice → Outcome
outcome_of Job = Ok tt
outcome_of NoPlace = Err Refusals.NoPlaceFree
outcome_of NoCandidates = Err Refusals.NoCandidates
outcome_of (Lacks part) = Err Refusals.NoAssignment

pub record SelectsIn (cell : Cell) (r : SelectAnswer) : Type 0 where
  pub outcome : r.outcome ≡ outcome_of r.selection.choice
  pub takes :
      Takes cell.schedule cell.lists (record { selection = r.selection; schedule = r.cell.schedule; lists = r.cell.lists })

-- READ A PACKET'S STATUS: what the request lists say; nothing changes
abbrev pub status_of : Cell → ℕ → ℕ → Result Status Refusal
status_of cell place packet = status_in cell.lists place packet

-- ---- A KEYBOARD MESSAGE (02, request 1)

-- told what a call answered, and its cell
abbrev pub called : Answered → Heeded
called a = record { told = Ok a.answer; cell = a.cell }

-- "Each message does what the existing call does": `DWN` and `AVL` are MARK with the down mark. `SEL` is RELEASE and
-- `DEL` is DELETE, of the ID beside. An unknown message is refused with 17, one with a fault in a field is told that,
-- and neither changes anything
abbrev pub heeded : Cell → Asked → List ℕ → Heeded
heeded cell Asked'.Unknown id = record { told = Ok (Refused Refusals.UnknownMessage); cell = cell }
heeded cell (Asked'.Wrong word fault) id = record { told = Err fault; cell = cell }
heeded cell (Asked'.Mark channel unit on) id = called (acted cell (Mark channel unit Down on))
heeded cell Asked'.Release id = called (releasing cell id)
heeded cell Asked'.Delete id = called (deleting cell id)

-- KEY A MESSAGE: what it does, and its answer whole at the start of the lent room, every byte behind it kept
pub record Keys (cell : Cell) (message room after· : List ℕ) (r : KeyAnswer) : Type 0 where
  pub does : record { told = r.told; cell = r.cell } ≡ heeded cell (read_message message).asks (read_message message).id
  pub text : Whole (answer_text (read_message message).asks r.told) room after· r.at
