-- ANY SEQUENCE OF CALLS. A call of documents 01 and 02 on the cell, what it answers, and what it leaves; and calls one
-- after the other. Each is exactly as the contract of the public function of its name in `cell` gives it. A reader has
-- to believe this page. Of the room lent for a deck or a message it keeps no length: their contracts have it by type.
use Rattle.std.specs.Prelude.{ℕ, ◌≡◌, List, [], ◌∷◌, Ok, Err}
use Rattle.std.proofs.Math.Option.{Option, none, some}
use Rattle.cell.specs.Calls.{Outcome, acted, deleting, fresh_cell, releasing, status_of, Enters, Keys, SelectsIn}
use Rattle.channels.specs.declared.Configuration.{Configuration}
use Rattle.units.specs.declared.Mark.TheVariants.{Down}
use Rattle.keyboard.specs.Messages.{read_message}
use Rattle.keyboard.specs.declared.Asked.{Asked}
use Rattle.keyboard.specs.declared.Asked.TheVariants as Asked'
use Rattle.keyboard.specs.declared.Fault.{Fault}
use Rattle.keyboard_answers.specs.MessageAnswers.{Told}
use Rattle.packets.specs.declared.Act.{Act}
use Rattle.packets.specs.declared.Act.TheVariants.{Mark}
use Rattle.packets.specs.declared.Answer.{Answer}
use Rattle.cell_selection.specs.declared.Selection.{Selection}
use Rattle.cell.specs.declared.Cell.{Cell}
use Rattle.cell.specs.declared.DeckAnswer.{DeckAnswer}
use Rattle.cell.specs.declared.KeyAnswer.{KeyAnswer}
use Rattle.cell.specs.declared.SelectAnswer.{SelectAnswer}
use Rattle.lists.specs.Outcomes.{StatusAnswer}

-- the calls, with what the caller hands over: for a deck and for a keyboard message its bytes. Do: a call on packets,
-- jobs, units or marks
pub data Call : Type 0 where
  Deck : List ℕ → Call
  Select : Call
  Do : Act → Call
  Release : List ℕ → Call
  Delete : List ℕ → Call
  Status : ℕ → ℕ → Call
  Key : List ℕ → Call

-- what they answer: how a deck ended; what was selected, or why nothing was. The answer of a packet, job, unit, mark or
-- schedule call, typed or not; a packet's status; the fault of a keyboard message
pub data Reply : Type 0 where
  Entered : Outcome → Reply
  Chosen : Outcome → Selection → Reply
  Said : Answer → Reply
  Shown : StatusAnswer → Reply
  Mistyped : Fault → Reply

-- what is told of a keyboard message, as a reply
abbrev pub reply_of : Told → Reply
reply_of (Ok answer) = Said answer
reply_of (Err fault) = Mistyped fault

-- WHAT A CALL MAY ANSWER AND LEAVE: `Does c x reply d`, called as x the cell c answers reply and is then d
abbrev pub Does : Cell → Call → Reply → Cell → Type 0
Does c (Deck bytes) reply d =
    (room after : List ℕ) × ((r : DeckAnswer) × (Enters c bytes room after r × ((reply ≡ Entered r.outcome) × (d ≡ r.cell))))
Does c Select reply d = (r : SelectAnswer) × (SelectsIn c r × ((reply ≡ Chosen r.outcome r.selection) × (d ≡ r.cell)))
Does c (Do x) reply d = (reply ≡ Said (acted c x).answer) × (d ≡ (acted c x).cell)
Does c (Release id) reply d = (reply ≡ Said (releasing c id).answer) × (d ≡ (releasing c id).cell)
Does c (Delete id) reply d = (reply ≡ Said (deleting c id).answer) × (d ≡ (deleting c id).cell)
Does c (Status place packet) reply d = (reply ≡ Shown (status_of c place packet)) × (d ≡ c)
Does c (Key message) reply d =
    (room after : List ℕ) × ((r : KeyAnswer) × (Keys c message room after r × ((reply ≡ reply_of r.told) × (d ≡ r.cell))))

-- a call with what it answered
pub record Event : Type 0 where
  pub call : Call
  pub reply : Reply

-- A HISTORY: `Leads c es d`, the calls es one after the other, answered so, lead from the cell c to the cell d
abbrev pub Leads : Cell → List Event → Cell → Type 0
Leads c [] d = d ≡ c
Leads c (e ∷ es) d = (m : Cell) × (Does c e.call e.reply m × Leads m es d)

-- where a history begins: the fresh cell of a configuration
abbrev pub Begins : Configuration → Cell → Type 0
Begins configuration c = c ≡ fresh_cell configuration

-- A REACHED CELL: the calls es, answered so, lead to the cell c from where a history of the configuration begins
pub record Reached (configuration : Configuration) (es : List Event) (c : Cell) : Type 0 where
  pub from : Cell
  pub begins : Begins configuration from
  pub leads : Leads from es c

-- ---- KEYBOARD MESSAGES AS CALLS

-- the call that a message asks for, if it asks for one
abbrev pub call_of : Asked → List ℕ → Option Call
call_of Asked'.Unknown id = none
call_of (Asked'.Wrong word fault) id = none
call_of (Asked'.Mark channel unit on) id = some (Do (Mark channel unit Down on))
call_of Asked'.Release id = some (Release id)
call_of Asked'.Delete id = some (Delete id)

-- the call that is meant: of a message the one that it asks for, else the call itself
abbrev pub meant : Call → Option Call
meant (Deck bytes) = some (Deck bytes)
meant Select = some Select
meant (Do x) = some (Do x)
meant (Release id) = some (Release id)
meant (Delete id) = some (Delete id)
meant (Status place packet) = some (Status place packet)
meant (Key message) = call_of (read_message message).asks (read_message message).id
