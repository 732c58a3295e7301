-- A KEYBOARD MESSAGE DOES WHAT THE CALL DOES THAT IT ASKS FOR, and nothing if it asks for none. So what holds of every
-- other call holds of messages too: `by-meant` carries it over. Assumes nothing.
use Prim.Native.Nat.{ℕ}
use mathlib.Core.Path.{◌≡◌, ap, ◌∙◌}
use mathlib.Core.List.{List}
use mathlib.Core.Option.{Option, none, some}
use Rattle.units.specs.declared.Mark.TheVariants.{Down}
use Rattle.keyboard.specs.Messages.{read_message}
use Rattle.keyboard.specs.declared.Asked.{Asked}
use Rattle.keyboard.specs.declared.Asked.TheVariants as Asked'
use Rattle.packets.specs.declared.Act.TheVariants.{Mark}
use Rattle.cell.specs.Calls.{heeded}
use Rattle.cell.specs.declared.Cell.{Cell}
use Rattle.cell.specs.declared.Heeded.{Heeded}
use Rattle.cell_history.specs.History.{Call, Deck, Delete, Do, Does, Key, Release, Reply, Select, Status, call_of, meant, reply_of}

-- a call that is no message
abbrev pub Plain : Call → Type 0
Plain (Deck bytes) = Unit {0}
Plain Select = Unit {0}
Plain (Do x) = Unit {0}
Plain (Release id) = Unit {0}
Plain (Delete id) = Unit {0}
Plain (Status place packet) = Unit {0}
Plain (Key message) = ⊥

-- what holds where nothing is done, and of each call that is no message, holds of every call as the one that it means
module _ (P : Option Call → Type 0) (c d : Cell) (reply : Reply) (nothing : d ≡ c → P none)
    (plain : (y : Call) → Plain y → Does c y reply d → P (some y)) where
  -- a message, by what it asks for
  by-asked : (a : Asked) (id : List ℕ) (h : Heeded) → h ≡ heeded c a id → reply ≡ reply_of h.told → d ≡ h.cell → P (call_of a id)
  by-asked Asked'.Unknown id h e r s = nothing (s ∙ ap (λ (x : Heeded). x.cell) e)
  by-asked (Asked'.Wrong word fault) id h e r s = nothing (s ∙ ap (λ (x : Heeded). x.cell) e)
  by-asked (Asked'.Mark channel unit on) id h e r s =
      plain (Do (Mark channel unit Down on)) tt (r ∙ ap (λ (x : Heeded). reply_of x.told) e, s ∙ ap (λ (x : Heeded). x.cell) e)
  by-asked Asked'.Release id h e r s = plain (Release id) tt (r ∙ ap (λ (x : Heeded). reply_of x.told) e, s ∙ ap (λ (x : Heeded). x.cell) e)
  by-asked Asked'.Delete id h e r s = plain (Delete id) tt (r ∙ ap (λ (x : Heeded). reply_of x.told) e, s ∙ ap (λ (x : Heeded). x.cell) e)

  pub by-meant : (x : Call) → Does c x reply d → P (meant x)
  by-meant (Deck bytes) h = plain (Deck bytes) tt h
  by-meant Select h = plain Select tt h
  by-meant (Do x) h = plain (Do x) tt h
  by-meant (Release id) h = plain (Release id) tt h
  by-meant (Delete id) h = plain (Delete id) tt h
  by-meant (Status place packet) h = plain (Status place packet) tt h
  by-meant (Key message) h =
      by-asked (read_message message).asks (read_message message).id (record { told = h.2.0.told; cell = h.2.0.cell })
      h.2.1.0.does h.2.1.1.0 h.2.1.1.1
