-- What the parts of a turn come to. Assumes nothing.
use Prim.Native.Nat.{ℕ, ◌+◌, ◌≤◌}
use mathlib.Core.Path.{◌≡◌, refl, sym, ap, subst, ◌∙◌}
use mathlib.Core.Bool.{Bool}
use mathlib.Core.List.{List, [], ◌∷◌}
use native.Mathlib.Omega.{arith}
use lib.ListN.{length}
use borrow.Author.Tests.{leb-true}
use Rattle.numbers.proofs.Tests.{by_bool}
use Rattle.numbers.specs.Limits.{deck_bytes}
use Rattle.text.specs.Room.{Written}
use Rattle.text.proofs.RoomLaws.{none}
use Rattle.cards_fields.specs.Deck.{is_termination}
use Rattle.shift_deck.specs.Gathering.{has_room, Adds}
use Rattle.std.specs.Prelude.{Option, Some, None}
use Rattle.cell.specs.declared.Cell.{Cell}
use Rattle.shift_script.specs.Script.{line_says}
use Rattle.shift_script.specs.declared.Line.{Line}
use Rattle.shift_script.specs.declared.Line.TheVariants as Line'
use Rattle.shift_script.specs.declared.Said.{Said}
use Rattle.shift_reply.specs.Replies.{Shows, Replies}
use Rattle.shift_reply.specs.declared.Replied.{Replied}
use Rattle.shift_turns.specs.Turns.{shift_of, turn_of, Says, after_line, Talks, Gathers, CardSays, Turns, end_text, Closes, Ends}
use Rattle.shift_turns.specs.declared.Phase.{Phase}
use Rattle.shift_turns.specs.declared.Phase.TheVariants as Phase'
use Rattle.shift_turns.specs.declared.Turn.{Turn}

-- a text is put, or nothing
pub says : {phase : Phase} {cell : Cell} {n : ℕ} {text out after : List ℕ} {t : Turn} → t ≡ turn_of phase cell n → Written out 0 text after n
    → Says text (shift_of phase cell) out after t
says e w = rw e (record { shift = refl; put = w })

pub silent : {phase : Phase} {cell : Cell} {out : List ℕ} {t : Turn} → t ≡ turn_of phase cell 0 → Says [] (shift_of phase cell) out out t
silent {out = out} e = says e (none out 0)

-- a line that is answered
pub talked : {cell : Cell} {said : Said} (line : List ℕ) {out after : List ℕ} {replied : Replied} {phase : Phase} {t : Turn}
    → said ≡ line_says line
    → Replies cell said.line said.id line out after replied → phase ≡ after_line said.line
    → t ≡ turn_of phase replied.cell replied.at → Talks cell line out after t
talked {cell} {said} line {out} {after} {replied} {phase} {t} e r p q =
    record {
      replied = replied;
      replies = subst (λ (s : Said). Replies cell s.line s.id line out after replied) e r;
      is = q ∙ ap (λ (x : Phase). turn_of x replied.cell replied.at) (p ∙ ap (λ (s : Said). after_line s.line) e);
    }

-- a deck that is entered
pub entered : {text out after : List ℕ} {next : Cell} {replied : Replied} {t : Turn} → Shows text next out after replied
    → t ≡ turn_of Phase'.Talks replied.cell replied.at
    → Says text (shift_of Phase'.Talks next) out after t
entered {text} {out} {after} {next} {replied} {t} s e = rw (← s.cell) (says e s.put)

-- the bytes of a deck that is not too long
pub deck-within : {room line room' : List ℕ} {kept n : ℕ} {g : Option ℕ} → Adds room kept line room' g → g ≡ Some n → n ≤ deck_bytes
deck-within {line = line} {kept = kept} {n = n} a e =
    by_bool (has_room kept line)
    (λ t. let m = leb-true (kept + (length line + 1)) deck_bytes t in
    let q : n ≡ kept + (length line + 1) = same (sym e ∙ a.is ∙ rw t refl) in
    omega arith)
    (λ t. absurd (other (sym e ∙ a.is ∙ rw t refl)))
  where
    same : {m k : ℕ} → Some m ≡ Some k → m ≡ k
    same e = cc

    other : {m : ℕ} → Some m ≡ None → ⊥
    other e = let z : ◌≡◌ {A = ℕ} 0 1 = cc in omega arith

pub gathered : {cell : Cell} {kept : ℕ} {line room room' out after : List ℕ} {t : Turn} {g h : Option ℕ} {last : Bool}
    → Adds room kept line room' g → g ≡ h → last ≡ is_termination line
    → CardSays h last cell room' out after t → Gathers cell kept line room room' out after t
gathered {cell} {kept} {line} {room} {room'} {out} {after} {t} {g} {h} {last} a e l s =
    record {
      gathered = h;
      adds = subst (Adds room kept line room') e a;
      says = subst (λ (b : Bool). CardSays h b cell room' out after t) l s;
    }

-- after any line but `DECK` calls go on
pub talks-on : (call : Line) → (call ≡ Line'.Deck → ⊥) → Phase'.Talks ≡ after_line call
talks-on Line'.NoCall d = refl
talks-on Line'.Echo d = refl
talks-on Line'.Deck d = absurd (d refl)
talks-on Line'.Select d = refl
talks-on Line'.Board d = refl
talks-on (Line'.Do act) d = refl
talks-on Line'.Release d = refl
talks-on Line'.Delete d = refl
talks-on (Line'.Status p k) d = refl
talks-on Line'.Key d = refl

-- the end of the input
pub ends : (phase : Phase) {cell : Cell} {rest room room' out after : List ℕ} {r : ℕ} → ((n : ℕ) → phase ≡ Phase'.Begins n → ⊥)
    → Closes phase cell rest room room' out after r → Ends phase cell rest room room' out after r
ends (Phase'.Begins n) b c = absurd (b n refl)
ends Phase'.Talks b c = c
ends (Phase'.Gathers n) b c = c
ends Phase'.Passes b c = c
ends Phase'.Over b c = c

pub closes-none : (phase : Phase) (cell : Cell) (rest room out after : List ℕ) (r : ℕ) → length rest ≡ 0 → Written out 0 (end_text phase) after r
    → Closes phase cell rest room room out after r
closes-none phase cell [] room out after r l w = record { turn = turn_of phase cell 0; between = out; turns = (refl, refl, refl); put = w }
closes-none phase cell (b ∷ s) room out after r l w = absurd (omega arith)

pub closes-some : (phase : Phase) (cell : Cell) (rest room room' out between after : List ℕ) (t : Turn) (r : ℕ) → (length rest ≡ 0 → ⊥)
    → Turns phase cell rest room room' out between t
    → Written between t.at (end_text t.shift.phase) after r → Closes phase cell rest room room' out after r
closes-some phase cell [] room room' out between after t r n u w = absurd (n refl)
closes-some phase cell (b ∷ s) room room' out between after t r n u w = record { turn = t; between = between; turns = u; put = w }
