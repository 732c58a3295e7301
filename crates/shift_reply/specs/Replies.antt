-- What is answered to a line of the script, and the cell then: the script's table, last column.
use Rattle.std.specs.Prelude.{ℕ, ◌≡◌, Ok, Err, List, [], ◌++◌}
use Rattle.numbers.specs.Quoted.{bytes}
use Rattle.channels.specs.declared.Channel.{Channel}
use Rattle.text.specs.Room.{Written}
use Rattle.cards_fields.specs.Fields.{spaceless}
use Rattle.schedule_deck.specs.Report.{deck_notes, deck_schedule, deck_outcome}
use Rattle.cell_selection.specs.declared.Choice.{Choice}
use Rattle.cell_selection.specs.declared.Choice.TheVariants.{Job, NoPlace, NoCandidates, Lacks}
use Rattle.cell_selection.specs.declared.Selection.{Selection}
use Rattle.keyboard.specs.Messages.{read_message}
use Rattle.keyboard_answers.specs.MessageAnswers.{answer_text as key_text}
use Rattle.cell.specs.Calls.{Outcome, cell_of, acted, releasing, deleting, status_of, heeded, SelectsIn}
use Rattle.cell.specs.declared.Answered.{Answered}
use Rattle.cell.specs.declared.Cell.{Cell}
use Rattle.cell.specs.declared.Heeded.{Heeded}
use Rattle.cell.specs.declared.SelectAnswer.{SelectAnswer}
use Rattle.answer_pieces.specs.Pieces.{no_text, no_line}
use Rattle.shift_answers.specs.AnswerLines.{no_call_text}
use Rattle.shift_packets.specs.Texts.{answer_text, placed, status_answer_text}
use Rattle.shift_selected.specs.Selected.{selected_text, part_text}
use Rattle.board.specs.Board.{board_text}
use Rattle.shift_script.specs.Script.{message_in}
use Rattle.shift_script.specs.declared.Line.{Line}
use Rattle.shift_script.specs.declared.Line.TheVariants as Line'
use Rattle.shift_reply.specs.declared.Replied.{Replied}

-- ---- the texts

-- `NO n` for a refused call, nothing else
abbrev pub refusal_text : Outcome → List ℕ
refusal_text (Ok u) = []
refusal_text (Err refusal) = no_line refusal

-- what follows the number where nothing is selected. It is nothing in "`NO 18`: no place is free" and "`NO 19`: a place
-- is free, but there is no candidate". It is the first candidate's ID and the first part that is lacking for it in
-- "`NO 20 id WHAT`"
abbrev pub lack_text : Choice → List ℕ → List ℕ
lack_text Job id = []
lack_text NoPlace id = []
lack_text NoCandidates id = []
lack_text (Lacks part) id = bytes " " ++ (spaceless id ++ (bytes " " ++ part_text part))

-- SELECT answers "`ACK p id ` and the assignment", or is "refused with one of three lines"
abbrev pub select_text : Outcome → Selection → List Channel → List ℕ
select_text (Ok u) selection channels = selected_text selection.place selection.request selection.assigned channels
select_text (Err refusal) selection channels =
    no_text refusal ++ (lack_text selection.choice selection.first ++ bytes "\n")

-- "echoed as it stands"
abbrev pub echo_text : List ℕ → List ℕ
echo_text line = line ++ bytes "\n"

-- ---- what a line leaves: the text from the room's start on, cut at its end, and the cell

-- this text, and this cell
pub record Shows (text : List ℕ) (next : Cell) (room after : List ℕ) (r : Replied) : Type 0 where
  pub cell : r.cell ≡ next
  pub put : Written room 0 text after r.at

-- the answer of a call, and its cell
abbrev pub Gives : Answered → List ℕ → List ℕ → Replied → Type 0
Gives a room after r = Shows (answer_text a.answer) a.cell room after r

-- a selection: what is selected is as crates/cell/specs/Calls.antt says
pub record Selects (cell : Cell) (room after : List ℕ) (r : Replied) : Type 0 where
  pub answer : SelectAnswer
  pub selects : SelectsIn cell answer
  pub shows : Shows (select_text answer.outcome answer.selection cell.lists.channels) answer.cell room after r

-- a deck entered: its error lines and the last line; where it is refused, that
abbrev pub deck_reply : Cell → List ℕ → List ℕ
deck_reply cell deck = deck_notes cell.schedule deck ++ refusal_text (deck_outcome deck)

abbrev pub deck_cell : Cell → List ℕ → Cell
deck_cell cell deck = cell_of (deck_schedule cell.schedule deck) cell.lists

abbrev pub EntersDeck : Cell → List ℕ → List ℕ → List ℕ → Replied → Type 0
EntersDeck cell deck room after r = Shows (deck_reply cell deck) (deck_cell cell deck) room after r

-- a keyboard message: it does what the call does that it is
abbrev pub keyed : Cell → List ℕ → Heeded
keyed cell message = heeded cell (read_message message).asks (read_message message).id

-- "the message's own answer line", and nothing else: its answer, and an LF
abbrev pub key_reply : Cell → List ℕ → List ℕ
key_reply cell message = key_text (read_message message).asks (keyed cell message).told ++ bytes "\n"

-- a message handed over
abbrev pub KeysMessage : Cell → List ℕ → List ℕ → List ℕ → Replied → Type 0
KeysMessage cell message room after r = Shows (key_reply cell message) (keyed cell message).cell room after r

-- THE ANSWER TO A LINE: what it says, the ID that it names, and the line itself. `DECK` is answered when its deck has
-- been gathered
abbrev pub Replies : Cell → Line → List ℕ → List ℕ → List ℕ → List ℕ → Replied → Type 0
Replies cell Line'.NoCall id line room after r = Shows no_call_text cell room after r
Replies cell Line'.Echo id line room after r = Shows (echo_text line) cell room after r
Replies cell Line'.Deck id line room after r = Shows [] cell room after r
Replies cell Line'.Select id line room after r = Selects cell room after r
Replies cell Line'.Board id line room after r = Shows (board_text cell.lists cell.schedule) cell room after r
Replies cell (Line'.Do act) id line room after r = Gives (acted cell (placed cell.lists.channels act)) room after r
Replies cell Line'.Release id line room after r = Gives (releasing cell id) room after r
Replies cell Line'.Delete id line room after r = Gives (deleting cell id) room after r
Replies cell (Line'.Status place packet) id line room after r = Shows (status_answer_text (status_of cell place packet)) cell room after r
Replies cell Line'.Key id line room after r = KeysMessage cell (message_in line) room after r
