-- The script: what a line says. The table is the script's own, in its order, and at its end the line of 02, request 5.
-- It has what is in a line, and which call that is.
use Rattle.std.specs.Prelude.{ℕ, min, Bool, true, false, cond, ◌||◌, List, [], ◌∷◌, eqb, ltb, length, get_or, take, drop}
use Prim.Native.String.{String}
use Rattle.numbers.specs.Quoted.{byte, bytes}
use Rattle.words.specs.Words.{same}
use Rattle.numbers.specs.declared.ChannelNumber.{ChannelNumber}
use Rattle.numbers.specs.declared.UnitNumber.{UnitNumber}
use Rattle.units.specs.declared.Mark.TheVariants as Mark'
use Rattle.packets.specs.declared.Spot.TheVariants.{OnDrum}
use Rattle.packets.specs.declared.How.TheVariants.{Full, Cut, Failed}
use Rattle.line_words.specs.declared.Base.TheVariants.{Decimal, Octal}
use Rattle.line_words.specs.Forms.{words_of, number_in, fitting, id_of}
use Rattle.packets.specs.declared.Act.{Act}
use Rattle.packets.specs.declared.Act.TheVariants.{Submit, Start, Complete, End, Return, Mark}
use Rattle.shift_script.specs.declared.Line.{Line}
use Rattle.shift_script.specs.declared.Line.TheVariants.{NoCall, Echo, Deck, Select, Board, Do}
use Rattle.shift_script.specs.declared.Line.TheVariants.{Release, Delete, Status, Key}
use Rattle.shift_script.specs.declared.Said.{Said}

-- the number that word k writes, the line's first word at 0
abbrev pub decimal_at : ℕ → List (List ℕ) → ℕ
decimal_at k words = number_in Decimal (get_or words k [])

-- a place, packet, channel or unit number, a function or failure code. For a larger number it is 255, which is out of
-- range as each of these, so that the call answers the same number
abbrev pub small_at : ℕ → List (List ℕ) → ℕ
small_at k words = min (decimal_at k words) 255

abbrev pub code_at : ℕ → List (List ℕ) → ℕ
code_at k words = min (number_in Octal (get_or words k [])) 255

abbrev pub channel_at : ℕ → List (List ℕ) → ChannelNumber
channel_at k words = record { 0 = small_at k words }

abbrev pub unit_at : ℕ → List (List ℕ) → UnitNumber
unit_at k words = record { 0 = small_at k words }

-- `SUBMIT p k ff cc x`, and H: x as an address, whatever the channel's kind, which no line says (`placed` does)
abbrev pub submission_of : ℕ → List (List ℕ) → Act
submission_of to w = Submit (small_at 1 w) (small_at 2 w) (code_at 3 w) (channel_at 4 w) (OnDrum (decimal_at 5 w) to)

-- a meaning without an ID, and one with the ID of the line's second word
abbrev pub said : Line → Said
said line = record { line = line; id = id_of [] }

abbrev pub named : Line → List (List ℕ) → Said
named line words = record { line = line; id = id_of (get_or words 1 []) }

-- a row of the table: the words, and what a line that has them says
pub record Row : Type 0 where
  pub form : List ℕ
  pub says : List (List ℕ) → Said

abbrev row : String → (List (List ℕ) → Said) → Row
row form says = record { form = bytes form; says = says }

unfoldable pub table : List Row
table =
    row "DECK" (λ w. said Deck)
    ∷ row "SELECT" (λ w. said Select)
    ∷ row "SUBMIT p k ff cc x" (λ w. said (Do (submission_of 0 w)))
    ∷ row "SUBMIT p k ff cc x h" (λ w. said (Do (submission_of (decimal_at 6 w) w)))
    ∷ row "START cc" (λ w. said (Do (Start (channel_at 1 w))))
    ∷ row "DONE cc" (λ w. said (Do (Complete (channel_at 1 w) Full)))
    ∷ row "CUT cc" (λ w. said (Do (Complete (channel_at 1 w) Cut)))
    ∷ row "FAIL cc ff" (λ w. said (Do (Complete (channel_at 1 w) (Failed (code_at 2 w)))))
    ∷ row "END p" (λ w. said (Do (End (small_at 1 w) false)))
    ∷ row "ABORT p" (λ w. said (Do (End (small_at 1 w) true)))
    ∷ row "DOWN cc uu" (λ w. said (Do (Mark (channel_at 1 w) (unit_at 2 w) Mark'.Down true)))
    ∷ row "UP cc uu" (λ w. said (Do (Mark (channel_at 1 w) (unit_at 2 w) Mark'.Down false)))
    ∷ row "RESERVE cc uu" (λ w. said (Do (Mark (channel_at 1 w) (unit_at 2 w) Mark'.Reserved true)))
    ∷ row "UNRESERVE cc uu" (λ w. said (Do (Mark (channel_at 1 w) (unit_at 2 w) Mark'.Reserved false)))
    ∷ row "RELEASE id" (λ w. named Release w)
    ∷ row "DELETE id" (λ w. named Delete w)
    ∷ row "STATUS p k" (λ w. said (Status (small_at 1 w) (small_at 2 w)))
    ∷ row "BOARD" (λ w. said Board)
    ∷ row "RETURN p cc uu" (λ w. said (Do (Return (small_at 1 w) (channel_at 2 w) (unit_at 3 w))))
    ∷ []

-- "A line that has not exactly the words below, or a number that is no such number, is no call"
unfoldable pub say_by : List Row → List (List ℕ) → Said
say_by [] words = said NoCall
say_by (row ∷ rows) words = cond (fitting (words_of row.form) words) (row.says words) (say_by rows words)

-- "An empty line, and a line that starts with `#`, is echoed as it stands and is no call"
unfoldable pub is_echo : List ℕ → Bool
is_echo s = eqb (length s) 0 || eqb (get_or s 0 0) (byte "#")

-- "The line is `KEY`, one space, and the message: the rest of the line, .. as they stand. `KEY` alone .. is the empty
-- message"; "the rule of single spaces does not hold behind that first space"
unfoldable pub is_key : List ℕ → Bool
is_key s = same s (bytes "KEY") || same (take 4 s) (bytes "KEY ")

-- the message of such a line: the bytes behind the first four, none for `KEY` alone
abbrev pub message_in : List ℕ → List ℕ
message_in s = drop 4 s

-- "A line of over 255 bytes, `#` or not, is no call", and `KEY` or not
unfoldable pub line_says : List ℕ → Said
line_says s =
    cond (ltb 255 (length s)) (said NoCall) (cond (is_echo s) (said Echo) (cond (is_key s) (said Key) (say_by table (words_of s))))
