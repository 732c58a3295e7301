-- The input of a shift, heard byte by byte: an LF has the line before it answered. So the answers to an input are
-- those of its lines, one after the other, whatever pieces it comes in.
use Rattle.std.specs.Prelude.{ℕ, ◌≤◌, ◌<◌, ◌≡◌, Bool, true, false, List, [], ◌∷◌, ◌++◌, eqb, length, take}
use Rattle.std.proofs.lemmas.List.Edits.{sets}
use Rattle.text.specs.Room.{reach, Written}
use Rattle.words.specs.Lines.{lf}
use Rattle.shift_turns.specs.Turns.{Turns}
use Rattle.shift_turns.specs.declared.Shift.{Shift}
use Rattle.shift_turns.specs.declared.Turn.{Turn}

-- how it is between two bytes of the input: the shift, and how many bytes of the next line have come. The lent rooms
-- hold that line, what is being gathered, and the last answer
pub record Standing : Type 0 where
  pub shift : Shift
  pub len : ℕ
  pub line : List ℕ
  pub room : List ℕ
  pub answer : List ℕ

abbrev pub standing : Shift → ℕ → List ℕ → List ℕ → List ℕ → Standing
standing shift len line room answer = record { shift = shift; len = len; line = line; room = room; answer = answer }

-- bytes of a line: they stand behind those that came before, cut at the end of the line's room
abbrev pub kept : Standing → List ℕ → Standing
kept s bytes =
    standing s.shift (reach s.len (length bytes) (length s.line)) (sets s.line s.len bytes) s.room s.answer

-- a line that is whole: it has its turn, from the shift that the line before left, and the next line is begun
pub record Answers (s : Standing) (text : List ℕ) (t : Standing) : Type 0 where
  pub turn : Turn
  pub turns : Turns s.shift.phase s.shift.cell (take s.len s.line) s.room t.room s.answer t.answer turn
  pub says : text ≡ take turn.at t.answer
  pub shift : t.shift ≡ turn.shift
  pub len : t.len ≡ 0
  pub line : t.line ≡ s.line

-- a byte, where it is LF or not
abbrev pub HearsByte : Bool → ℕ → Standing → List ℕ → Standing → Type 0
HearsByte true b s text t = Answers s text t
HearsByte false b s text t = (text ≡ []) × (t ≡ kept s (b ∷ []))

-- THE INPUT IS HEARD, `Hears s input text t`. From s on the bytes of the input answer this text, and it is as t then
abbrev pub Hears : Standing → List ℕ → List ℕ → Standing → Type 0
Hears s [] text t = (text ≡ []) × (t ≡ s)
Hears s (b ∷ input) text t =
    (m : Standing) × (x : List ℕ) × (y : List ℕ) × HearsByte (eqb b lf) b s x m × Hears m input y t × (text ≡ x ++ y)

-- this many bytes of answers leave room for another: one has at most 53,248 bytes, and 65,536 are lent
abbrev pub enough : ℕ
enough = 12288

-- the first `taken` bytes of a piece are heard: what they answer is at the start of `out`, `at` bytes, uncut. The
-- answers to any fewer of them have at most `enough` bytes
pub record HearsSome (s : Standing) (piece out : List ℕ) (t : Standing) (taken at : ℕ) (after : List ℕ) : Type 0 where
  pub text : List ℕ
  pub hears : Hears s (take taken piece) text t
  pub put : Written out 0 text after at
  pub uncut : at ≡ length text
  pub most : taken ≤ length piece
  pub fewer : (n : ℕ) (x : List ℕ) (u : Standing) → n < taken → Hears s (take n piece) x u → length x ≤ enough

-- A PIECE OF THE INPUT: it is heard as far as there is room for another answer
pub record HearsPiece (s : Standing) (piece out : List ℕ) (t : Standing) (taken at : ℕ) (after : List ℕ) : Type 0 where
  pub some : HearsSome s piece out t taken at after
  pub all : taken < length piece → enough < at
