-- What a history of the cell is to the request lists: the calls on them, each with the answer that the history records. A
-- call is told as none, one or several of theirs. A selection is told as a taking, a keyboard message as the call that it
-- asks for. A reader has to believe this page.
use Rattle.std.specs.Prelude.{List, [], ◌∷◌, ◌++◌, Err, Ok}
use Rattle.std.proofs.Math.Option.{Option, none, some}
use Rattle.cell.specs.Calls.{Outcome}
use Rattle.packets.specs.History as Lists
use Rattle.packets.specs.Rules as Rules
use Rattle.packets.specs.State.{State}
use Rattle.packets.specs.declared.Act.{Act}
use Rattle.packets.specs.declared.Answer.TheVariants.{Done}
use Rattle.lists.specs.Outcomes.{state_of}
use Rattle.cell_selection.specs.Selecting.{taking_of}
use Rattle.cell_selection.specs.declared.Selection.{Selection}
use Rattle.cell.specs.declared.Cell.{Cell}
use Rattle.cell_history.specs.History.{
  Call,
  Chosen,
  Deck,
  Delete,
  Do,
  Entered,
  Event,
  Key,
  Mistyped,
  Release,
  Reply,
  Said,
  Select,
  Shown,
  Status,
  meant,
}

-- a call on packets, jobs, units or marks with the answer that was given to it
abbrev pub said : Act → Reply → List Lists.Event
said x (Entered o) = []
said x (Chosen o selection) = []
said x (Said a) = record { call = Rules.Do x; answer = a } ∷ []
said x (Shown s) = []
said x (Mistyped f) = []

-- a selection that was answered Done is a taking that was done
abbrev pub done_as : Outcome → Selection → List Lists.Event
done_as (Ok u) selection = record { call = taking_of selection; answer = Done } ∷ []
done_as (Err n) selection = []

abbrev pub chosen : Reply → List Lists.Event
chosen (Entered o) = []
chosen (Chosen o selection) = done_as o selection
chosen (Said a) = []
chosen (Shown s) = []
chosen (Mistyped f) = []

abbrev pub told_as : Call → Reply → List Lists.Event
told_as (Deck bytes) reply = []
told_as Select reply = chosen reply
told_as (Do x) reply = said x reply
told_as (Release id) reply = []
told_as (Delete id) reply = []
told_as (Status place packet) reply = []
told_as (Key message) reply = []

-- of the call that is meant, if there is one
abbrev pub told_by : Option Call → Reply → List Lists.Event
told_by none reply = []
told_by (some x) reply = told_as x reply

-- a keyboard message is told as the call that it is, and any other call as itself
abbrev pub told_of : Call → Reply → List Lists.Event
told_of x reply = told_by (meant x) reply

-- WHAT IS TOLD of a history: the calls on the request lists, with the replies that it records
abbrev pub told : List Event → List Lists.Event
told [] = []
told (e ∷ es) = told_of e.call e.reply ++ told es

-- ---- the cell

-- the state of the lists of a cell
abbrev pub inside : Cell → State
inside c = state_of c.lists
