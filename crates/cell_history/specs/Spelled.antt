-- A HISTORY WITH KEYBOARD MESSAGES IS ONE WITH THE CALLS THAT THEY ARE. A reader has to believe this page.
use Rattle.std.specs.Prelude.{ℕ, ◌≡◌, List, [], ◌∷◌, ◌++◌}
use Rattle.std.proofs.Math.Option.{Option, none, some}
use Rattle.cell.specs.declared.Cell.{Cell}
use Rattle.cell_history.specs.Told.{told}
use Rattle.cell_history.specs.History.{Call, Event, Key, Leads, Reply, meant}

-- a call with what it answered, if there is one
abbrev pub event_of : Option Call → Reply → List Event
event_of none reply = []
event_of (some x) reply = record { call = x; reply = reply } ∷ []

-- a history with each message spelled out as the call that it asks for, answered as the message was. A message that
-- asks for none is left out
abbrev pub spelled : List Event → List Event
spelled [] = []
spelled (e ∷ es) = event_of (meant e.call) e.reply ++ spelled es

-- no call of a history is a message
abbrev pub NoMessages : List Event → Type 0
NoMessages [] = Unit {0}
NoMessages (e ∷ es) = ((message : List ℕ) → e.call ≡ Key message → ⊥) × NoMessages es

-- THE STATEMENT: the spelled history has no message, it leads to the same cell, and the same is told of it
pub record SpelledOut (c : Cell) (es : List Event) (d : Cell) : Type 0 where
  pub plain : NoMessages (spelled es)
  pub leads : Leads c (spelled es) d
  pub tolds : told (spelled es) ≡ told es

-- and so for every history
abbrev pub SpelledAlways : Type 0
SpelledAlways = (c d : Cell) (es : List Event) → Leads c es d → SpelledOut c es d
