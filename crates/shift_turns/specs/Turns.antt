-- A shift line by line: what each line does, and what is answered to it.
use Rattle.std.specs.Prelude.{ℕ, ◌≡◌, Bool, true, false, Option, Some, None, List, [], ◌∷◌, take}
use Rattle.numbers.specs.declared.Refusal.TheVariants.{BadDeck}
use Rattle.text.specs.Room.{Written}
use Rattle.channels.specs.Channels.{no_channels, no_codes, no_down}
use Rattle.cards_fields.specs.Deck.{is_termination}
use Rattle.shift_begin.specs.declared.Begun.{Begun}
use Rattle.shift_begin.specs.declared.Begun.TheVariants as Begun'
use Rattle.shift_opening.specs.Openings.{Opens, Unfinished}
use Rattle.shift_opening.specs.declared.Opening.{Opening}
use Rattle.shift_deck.specs.Gathering.{Adds}
use Rattle.answer_pieces.specs.Pieces.{no_line}
use Rattle.cell.specs.Calls.{fresh_cell}
use Rattle.cell.specs.declared.Cell.{Cell}
use Rattle.shift_script.specs.Script.{line_says}
use Rattle.shift_script.specs.declared.Line.{Line}
use Rattle.shift_script.specs.declared.Line.TheVariants as Line'
use Rattle.shift_reply.specs.Replies.{Replies, deck_reply, deck_cell}
use Rattle.shift_reply.specs.declared.Replied.{Replied}
use Rattle.shift_turns.specs.declared.Phase.{Phase}
use Rattle.shift_turns.specs.declared.Phase.TheVariants as Phase'
use Rattle.shift_turns.specs.declared.Shift.{Shift}
use Rattle.shift_turns.specs.declared.Turn.{Turn}

-- a phase and a cell
abbrev pub shift_of : Phase → Cell → Shift
shift_of phase cell = record { phase = phase; cell = cell }

-- before the first line: nothing of the configuration is there, and the cell is the fresh one of none
abbrev pub fresh_shift : Shift
fresh_shift = shift_of (Phase'.Begins 0) (fresh_cell (record { channels = no_channels; down = no_down; codes = no_codes }))

-- this text from the room's start on, cut at its end, and this shift
pub record Says (text : List ℕ) (next : Shift) (out after : List ℕ) (t : Turn) : Type 0 where
  pub shift : t.shift ≡ next
  pub put : Written out 0 text after t.at

-- ---- the configuration

-- more of it is due; it is whole; or it was bad "and the program ends"
abbrev pub begun_shift : Begun → ℕ → Cell → Shift
begun_shift Begun'.More kept cell = shift_of (Phase'.Begins kept) cell
begun_shift (Begun'.Good configuration) kept cell = shift_of Phase'.Talks (fresh_cell configuration)
begun_shift (Begun'.Bad line) kept cell = shift_of Phase'.Over cell

-- the turn that an opening comes to
abbrev pub opening_turn : Opening → Cell → Turn
opening_turn o cell = record { shift = begun_shift o.begun o.kept cell; at = o.at }

-- a line of the configuration: what it opens, and the turn then
pub record Begins (cell : Cell) (kept : ℕ) (line room room' out after : List ℕ) (t : Turn) : Type 0 where
  pub opening : Opening
  pub opens : Opens kept line room room' out after opening
  pub is : t ≡ opening_turn opening cell

-- ---- calls

-- after a line `DECK` a deck is gathered
abbrev pub after_line : Line → Phase
after_line Line'.NoCall = Phase'.Talks
after_line Line'.Echo = Phase'.Talks
after_line Line'.Deck = Phase'.Gathers 0
after_line Line'.Select = Phase'.Talks
after_line Line'.Board = Phase'.Talks
after_line (Line'.Do act) = Phase'.Talks
after_line Line'.Release = Phase'.Talks
after_line Line'.Delete = Phase'.Talks
after_line (Line'.Status place packet) = Phase'.Talks
after_line Line'.Key = Phase'.Talks

-- a turn to this phase and this cell
abbrev pub turn_of : Phase → Cell → ℕ → Turn
turn_of phase cell at = record { shift = shift_of phase cell; at = at }

-- a line: its answer, and the cell then
pub record Talks (cell : Cell) (line out after : List ℕ) (t : Turn) : Type 0 where
  pub replied : Replied
  pub replies : Replies cell (line_says line).line (line_says line).id line out after replied
  pub is : t ≡ turn_of (after_line (line_says line).line) replied.cell replied.at

-- ---- decks

-- a card of a deck that is too long: "the answer is `NO 11`; .. reading goes on after the termination card, wherever
-- that comes"
abbrev pub PassSays : Bool → Cell → List ℕ → List ℕ → Turn → Type 0
PassSays true cell out after t = Says (no_line BadDeck) (shift_of Phase'.Talks cell) out after t
PassSays false cell out after t = Says [] (shift_of Phase'.Passes cell) out after t

-- a deck that is complete: it is entered
abbrev pub Entered : Cell → List ℕ → List ℕ → List ℕ → Turn → Type 0
Entered cell deck out after t = Says (deck_reply cell deck) (shift_of Phase'.Talks (deck_cell cell deck)) out after t

-- a card of a deck, where it is the last card or not: the deck is entered or goes on
abbrev pub CardSays : Option ℕ → Bool → Cell → List ℕ → List ℕ → List ℕ → Turn → Type 0
CardSays (Some n) true cell room out after t = Entered cell (take n room) out after t
CardSays (Some n) false cell room out after t = Says [] (shift_of (Phase'.Gathers n) cell) out after t
CardSays None last cell room out after t = PassSays last cell out after t

-- a card of a deck: it is put behind the cards before it
pub record Gathers (cell : Cell) (kept : ℕ) (line room room' out after : List ℕ) (t : Turn) : Type 0 where
  pub gathered : Option ℕ
  pub adds : Adds room kept line room' gathered
  pub says : CardSays gathered (is_termination line) cell room' out after t

-- ---- THE TURN: what a line does in each phase
abbrev pub Turns : Phase → Cell → List ℕ → List ℕ → List ℕ → List ℕ → List ℕ → Turn → Type 0
Turns (Phase'.Begins kept) cell line room room' out after t = Begins cell kept line room room' out after t
Turns Phase'.Talks cell line room room' out after t = (room' ≡ room) × Talks cell line out after t
Turns (Phase'.Gathers kept) cell line room room' out after t = Gathers cell kept line room room' out after t
Turns Phase'.Passes cell line room room' out after t = (room' ≡ room) × PassSays (is_termination line) cell out after t
Turns Phase'.Over cell line room room' out after t = (room' ≡ room) × Says [] (shift_of Phase'.Over cell) out after t

-- ---- the end of the input

-- "If the input ends before a termination card, .. the answer is `NO 11`"
abbrev pub end_text : Phase → List ℕ
end_text (Phase'.Begins kept) = []
end_text Phase'.Talks = []
end_text (Phase'.Gathers kept) = no_line BadDeck
end_text Phase'.Passes = no_line BadDeck
end_text Phase'.Over = []

-- "a last line without LF is taken as if it had one"; no line where nothing is left
abbrev pub LastTurn : Phase → Cell → List ℕ → List ℕ → List ℕ → List ℕ → List ℕ → Turn → Type 0
LastTurn phase cell [] room room' out after t = (room' ≡ room) × (after ≡ out) × (t ≡ turn_of phase cell 0)
LastTurn phase cell (b ∷ s) room room' out after t = Turns phase cell (b ∷ s) room room' out after t

-- the last line's turn, and then what the shift leaves unanswered
pub record Closes (phase : Phase) (cell : Cell) (rest room room' out after : List ℕ) (r : ℕ) : Type 0 where
  pub turn : Turn
  pub between : List ℕ
  pub turns : LastTurn phase cell rest room room' out between turn
  pub put : Written between turn.at (end_text turn.shift.phase) after r

-- THE END: what is left of the input, and what is answered then
abbrev pub Ends : Phase → Cell → List ℕ → List ℕ → List ℕ → List ℕ → List ℕ → ℕ → Type 0
Ends (Phase'.Begins kept) cell rest room room' out after r = Unfinished kept rest room room' out after r
Ends Phase'.Talks cell rest room room' out after r = Closes Phase'.Talks cell rest room room' out after r
Ends (Phase'.Gathers kept) cell rest room room' out after r = Closes (Phase'.Gathers kept) cell rest room room' out after r
Ends Phase'.Passes cell rest room room' out after r = Closes Phase'.Passes cell rest room room' out after r
Ends Phase'.Over cell rest room room' out after r = Closes Phase'.Over cell rest room room' out after r
