-- The desk, heard line by line in lent rooms: what each call leaves and answers, for whatever it is handed. A reader has
-- to believe this page. That the calls together print what the page Printing says is proved (proofs/Program), for any
-- pieces in which the input comes.
use Rattle.std.specs.Prelude.{ℕ, ◌+◌, ◌≡◌, Bool, true, false, cond, List, [], ◌∷◌, ◌++◌, eqb, length, take}
use Rattle.numbers.specs.declared.Refusal.TheVariants.{BadDeck}
use Rattle.numbers.specs.Limits.{deck_bytes}
use Rattle.text.specs.Room.{Written, Whole}
use Rattle.words.specs.Lines.{line_text}
use Rattle.cards_fields.specs.Deck.{is_termination}
use Rattle.input_lines.specs.Lines.{TakesUp}
use Rattle.input_lines.specs.declared.Cut.{Cut}
use Rattle.answer_pieces.specs.Pieces.{no_line}
use Rattle.desk_hearing.specs.Printing.{Says}
use Rattle.desk_hearing.specs.declared.Stage.{Stage}
use Rattle.desk_hearing.specs.declared.Stage.TheVariants.{GathersRepair, GathersDay, Asks}
use Rattle.desk_hearing.specs.declared.Desk.{Desk}

abbrev pub desk_of : Stage → ℕ → ℕ → ℕ → Desk
desk_of stage repair day line = record { stage = stage; repair = repair; day = day; line = line }

-- before the first byte
abbrev pub fresh : Desk
fresh = desk_of GathersRepair 0 0 0

-- how it stands between two calls: the desk, and what the rooms hold that are lent for the line and the two decks
pub record Standing : Type 0 where
  pub desk : Desk
  pub line : List ℕ
  pub repair : List ℕ
  pub day : List ℕ

abbrev pub standing : Desk → List ℕ → List ℕ → List ℕ → Standing
standing desk line repair day = record { desk = desk; line = line; repair = repair; day = day }

-- what has come of the line, of the repair deck and of the day's deck, cut at their rooms' ends
abbrev pub line_in : Standing → List ℕ
line_in s = take s.desk.line s.line

abbrev pub repair_in : Standing → List ℕ
repair_in s = take s.desk.repair s.repair

abbrev pub day_in : Standing → List ℕ
day_in s = take s.desk.day s.day

-- a deck stays as it is
abbrev pub SameRepair : Standing → Standing → Type 0
SameRepair s t = (t.repair ≡ s.repair) × (t.desk.repair ≡ s.desk.repair)

abbrev pub SameDay : Standing → Standing → Type 0
SameDay s t = (t.day ≡ s.day) × (t.desk.day ≡ s.desk.day)

-- A WHOLE LINE, by what it belongs to. A card comes after those of its deck, and the termination card ends that; an ID
-- is answered
abbrev pub Turns : Stage → List ℕ → Standing → Standing → List ℕ → Type 0
Turns GathersRepair line s t text =
    Written s.repair s.desk.repair (line_text line) t.repair t.desk.repair
    × (t.desk.stage ≡ cond (is_termination line) GathersDay GathersRepair) × SameDay s t × (text ≡ [])
Turns GathersDay line s t text =
    Written s.day s.desk.day (line_text line) t.day t.desk.day
    × (t.desk.stage ≡ cond (is_termination line) Asks GathersDay) × SameRepair s t × (text ≡ [])
Turns Asks line s t text = Says line (repair_in s) (day_in s) text × (t.desk.stage ≡ Asks) × SameRepair s t × SameDay s t

-- "A line is answered as soon as its LF has come". By whether the piece has it the next line is begun, or this one is
-- waited for
abbrev pub TurnsIf : Bool → ℕ → Standing → Standing → List ℕ → Type 0
TurnsIf true kept s t text = Turns s.desk.stage (take kept t.line) s t text × (t.desk.line ≡ 0)
TurnsIf false kept s t text =
    (t.desk ≡ desk_of s.desk.stage s.desk.repair s.desk.day kept) × (t.repair ≡ s.repair) × (t.day ≡ s.day) × (text ≡ [])

-- ONE CALL: the first line of a piece, or what the piece has of it, is taken up, and answers this text
pub record Hears (s : Standing) (piece : List ℕ) (t : Standing) (taken : ℕ) (text : List ℕ) : Type 0 where
  pub cut : Cut
  pub takes : TakesUp s.line s.desk.line piece t.line cut
  pub took : taken ≡ cut.taken
  pub turns : TurnsIf cut.whole cut.kept s t text

-- and the text stands whole in the room that is lent for it
pub record Heard (s : Standing) (piece : List ℕ) (t : Standing) (taken : ℕ) (out after : List ℕ) (at : ℕ) : Type 0 where
  pub text : List ℕ
  pub hears : Hears s piece t taken text
  pub put : Whole text out after at

-- THE END OF THE INPUT: "A last line without LF counts", and one that has no byte is none
abbrev pub EndsIf : Bool → Standing → List ℕ → Type 0
EndsIf true s text = text ≡ []
EndsIf false s text = Says (line_in s) (repair_in s) (day_in s) text

abbrev pub Ends : Stage → Standing → List ℕ → Type 0
Ends GathersRepair s text = text ≡ no_line BadDeck
Ends GathersDay s text = text ≡ no_line BadDeck
Ends Asks s text = EndsIf (eqb s.desk.line 0) s text

pub record Ended (s : Standing) (out after : List ℕ) (at : ℕ) : Type 0 where
  pub text : List ℕ
  pub ends : Ends s.desk.stage s text
  pub put : Whole text out after at

-- THE CALLS OF A RUN: each was handed a piece, took so many of its bytes and answered a text
pub record Call : Type 0 where
  pub piece : List ℕ
  pub taken : ℕ
  pub text : List ℕ

abbrev pub Runs : Standing → List Call → Standing → Type 0
Runs s [] t = t ≡ s
Runs s (c ∷ cs) t = (m : Standing) × Hears s c.piece m c.taken c.text × Runs m cs t

-- the input that they took, and what they printed, one behind the other
abbrev pub input_of : List Call → List ℕ
input_of [] = []
input_of (c ∷ cs) = take c.taken c.piece ++ input_of cs

abbrev pub printed : List Call → List ℕ
printed [] = []
printed (c ∷ cs) = c.text ++ printed cs

-- rooms of the length that is lent, and a desk before the first byte
pub record Begins (s : Standing) : Type 0 where
  pub desk : s.desk ≡ fresh
  pub line : length s.line ≡ (deck_bytes + 1)
  pub repair : length s.repair ≡ (deck_bytes + 1)
  pub day : length s.day ≡ (deck_bytes + 1)
