-- One line answered, its answer behind those before it: what the loop over a piece does with a line. Nothing on this
-- page has to be believed: contracts cite it, and proofs/Loop shows what it comes to.
use Rattle.std.specs.Prelude.{ℕ, ◌+◌, ◌≤◌, ◌≡◌, List, length, take}
use Rattle.text.specs.Room.{Written}
use Rattle.packets.specs.declared.Lists.{Lists}
use Rattle.shift_script.specs.Script.{line_says}
use Rattle.shift_script.specs.declared.Line.{Line}
use Rattle.shift_script.specs.declared.Line.TheVariants.{NoCall}
use Rattle.shift_packets.specs.OnLists.{Handles}
use Rattle.shift_packets.specs.declared.Handled.{Handled}
use Rattle.shift_turns.specs.Turns.{Turns}
use Rattle.shift_turns.specs.declared.Phase.{Phase}
use Rattle.shift_turns.specs.declared.Phase.TheVariants as Phase'
use Rattle.shift_turns.specs.declared.Shift.{Shift}
use Rattle.shift_turns.specs.declared.Turn.{Turn}
use Rattle.shift_hearing.specs.Hearing.{enough}

-- what a line says while calls are answered; it is no call in any other phase
abbrev pub asked_in : Phase → List ℕ → Line
asked_in (Phase'.Begins kept) line = NoCall
asked_in Phase'.Talks line = (line_says line).line
asked_in (Phase'.Gathers kept) line = NoCall
asked_in Phase'.Passes line = NoCall
asked_in Phase'.Over line = NoCall

-- an answer of so many bytes put behind those before it, at `at`
pub record Behind (answer out : List ℕ) (n at : ℕ) (after : List ℕ) (end : ℕ) : Type 0 where
  pub put : Written out at (take n answer) after end
  pub uncut : at ≤ enough → end ≡ at + length (take n answer)

-- a line's turn, its answer put behind those before it
pub record AnswersBehind (from : Shift) (line room room' answer answer' out : List ℕ) (at : ℕ) (after : List ℕ) (r : Turn) : Type 0 where
  pub turn : Turn
  pub turns : Turns from.phase from.cell line room room' answer answer' turn
  pub shift : r.shift ≡ turn.shift
  pub behind : Behind answer' out turn.at at after r.at

-- a call on the request lists, its answer put behind those before it
pub record HandlesBehind (from : Lists) (call : Line) (answer answer' out : List ℕ) (at : ℕ) (after : List ℕ) (r : Handled) : Type 0 where
  pub handled : Handled
  pub handles : Handles from call answer answer' handled
  pub leaves : r.lists ≡ handled.lists
  pub says : r.answer ≡ handled.answer
  pub behind : Behind answer' out handled.at at after r.at
