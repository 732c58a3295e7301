-- A line has one turn, and the input's end one answer: what is promised of them leaves one shift, one room and one
-- text. Assumes nothing.
use Prim.Native.Nat.{ℕ}
use mathlib.Core.Path.{◌≡◌, sym, ap, ap₂, subst, ◌∙◌}
use mathlib.Core.Bool.{Bool, true, false}
use mathlib.Core.List.{List, [], ◌∷◌}
use Rattle.text.specs.Room.{Written}
use Rattle.text.proofs.RoomLaws.{written_one}
use Rattle.cards_fields.specs.Deck.{is_termination}
use Rattle.shift_opening.specs.declared.Opening.{Opening}
use Rattle.shift_opening.proofs.OpeningLaws.{opens_one, unfinished-one}
use Rattle.std.specs.Prelude.{Option, Some, None}
use Rattle.cell.specs.declared.Cell.{Cell}
use Rattle.shift_script.specs.Script.{line_says}
use Rattle.shift_reply.proofs.OneReply.{replies-one}
use Rattle.shift_reply.specs.declared.Replied.{Replied}
use Rattle.shift_turns.specs.Turns.{turn_of, Says, opening_turn, Begins, after_line, Talks, PassSays, CardSays}
use Rattle.shift_turns.specs.Turns.{Gathers, Turns, end_text, LastTurn, Closes, Ends}
use Rattle.shift_turns.specs.declared.Phase.{Phase}
use Rattle.shift_turns.specs.declared.Phase.TheVariants as Phase'
use Rattle.shift_turns.specs.declared.Shift.{Shift}
use Rattle.shift_turns.specs.declared.Turn.{Turn}

-- ---- the parts

abbrev made : Shift → ℕ → Turn
made s n = record { shift = s; at = n }

says-one : {text out a b : List ℕ} {next : Shift} {t u : Turn} → Says text next out a t → Says text next out b u → (a ≡ b) × (t ≡ u)
says-one x y = let w = written_one x.put y.put in (w.0, ap₂ made (x.shift ∙ sym y.shift) w.1)

-- room, text and turn of one line are those of another
abbrev Same : List ℕ → List ℕ → List ℕ → List ℕ → Turn → Turn → Type 0
Same room room' a b t u = (room ≡ room') × (a ≡ b) × (t ≡ u)

begins-one : (cell : Cell) (kept : ℕ) (line room room₁ room₂ out a b : List ℕ) (t u : Turn) → Begins cell kept line room room₁ out a t
    → Begins cell kept line room room₂ out b u
    → Same room₁ room₂ a b t u
begins-one cell kept line room room₁ room₂ out a b t u x y =
    let o = opens_one kept line room room₁ room₂ out a b x.opening y.opening x.opens y.opens in
    (o.0, o.1, x.is ∙ ap (λ (p : Opening). opening_turn p cell) o.2 ∙ sym y.is)

talks-one : (cell : Cell) (line out a b : List ℕ) (t u : Turn) → Talks cell line out a t → Talks cell line out b u → (a ≡ b) × (t ≡ u)
talks-one cell line out a b t u x y =
    let r = replies-one cell (line_says line).line (line_says line).id line out a b x.replied y.replied x.replies y.replies in
    (r.0, x.is ∙ ap (λ (q : Replied). turn_of (after_line (line_says line).line) q.cell q.at) r.1 ∙ sym y.is)

pass-one : (last : Bool) (cell : Cell) (out a b : List ℕ) (t u : Turn) → PassSays last cell out a t → PassSays last cell out b u → (a ≡ b) × (t ≡ u)
pass-one true cell out a b t u x y = says-one x y
pass-one false cell out a b t u x y = says-one x y

card-one : (g : Option ℕ) (last : Bool) (cell : Cell) (room out a b : List ℕ) (t u : Turn) → CardSays g last cell room out a t
    → CardSays g last cell room out b u → (a ≡ b) × (t ≡ u)
card-one (Some n) true cell room out a b t u x y = says-one x y
card-one (Some n) false cell room out a b t u x y = says-one x y
card-one None last cell room out a b t u x y = pass-one last cell out a b t u x y

gathers-one : (cell : Cell) (kept : ℕ) (line room room₁ room₂ out a b : List ℕ) (t u : Turn) → Gathers cell kept line room room₁ out a t
    → Gathers cell kept line room room₂ out b u
    → Same room₁ room₂ a b t u
gathers-one cell kept line room room₁ room₂ out a b t u x y =
    let g = x.adds.is ∙ sym y.adds.is in
    let k = x.adds.bytes ∙ sym y.adds.bytes in
    let z : CardSays x.gathered (is_termination line) cell room₂ out a t =
    subst (λ (r : List ℕ). CardSays x.gathered (is_termination line) cell r out a t) k x.says in
    let w : CardSays y.gathered (is_termination line) cell room₂ out a t =
    subst (λ (h : Option ℕ). CardSays h (is_termination line) cell room₂ out a t) g z in
    let s = card-one y.gathered (is_termination line) cell room₂ out a b t u w y.says in
    (k, s.0, s.1)

-- ---- ONE TURN
pub turns-one : (phase : Phase) (cell : Cell) (line room room₁ room₂ out a b : List ℕ) (t u : Turn) → Turns phase cell line room room₁ out a t
    → Turns phase cell line room room₂ out b u
    → Same room₁ room₂ a b t u
turns-one (Phase'.Begins kept) cell line room room₁ room₂ out a b t u x y = begins-one cell kept line room room₁ room₂ out a b t u x y
turns-one Phase'.Talks cell line room room₁ room₂ out a b t u x y =
    let s = talks-one cell line out a b t u x.1 y.1 in (x.0 ∙ sym y.0, s.0, s.1)
turns-one (Phase'.Gathers kept) cell line room room₁ room₂ out a b t u x y = gathers-one cell kept line room room₁ room₂ out a b t u x y
turns-one Phase'.Passes cell line room room₁ room₂ out a b t u x y =
    let s = pass-one (is_termination line) cell out a b t u x.1 y.1 in (x.0 ∙ sym y.0, s.0, s.1)
turns-one Phase'.Over cell line room room₁ room₂ out a b t u x y = let s = says-one x.1 y.1 in (x.0 ∙ sym y.0, s.0, s.1)

-- ---- the end of the input

last_one : (phase : Phase) (cell : Cell) (rest room room₁ room₂ out a b : List ℕ) (t u : Turn) → LastTurn phase cell rest room room₁ out a t
    → LastTurn phase cell rest room room₂ out b u
    → Same room₁ room₂ a b t u
last_one phase cell [] room room₁ room₂ out a b t u x y = (x.0 ∙ sym y.0, x.1 ∙ sym y.1, x.2 ∙ sym y.2)
last_one phase cell (c ∷ s) room room₁ room₂ out a b t u x y = turns-one phase cell (c ∷ s) room room₁ room₂ out a b t u x y

-- room, text and length at the end
abbrev SameEnd : List ℕ → List ℕ → List ℕ → List ℕ → ℕ → ℕ → Type 0
SameEnd room room' a b n m = (room ≡ room') × (a ≡ b) × (n ≡ m)

closes-one : (phase : Phase) (cell : Cell) (rest room room₁ room₂ out a b : List ℕ) (n m : ℕ) → Closes phase cell rest room room₁ out a n
    → Closes phase cell rest room room₂ out b m
    → SameEnd room₁ room₂ a b n m
closes-one phase cell rest room room₁ room₂ out a b n m x y =
    let l = last_one phase cell rest room room₁ room₂ out x.between y.between x.turn y.turn x.turns y.turns in
    let z : Written y.between x.turn.at (end_text x.turn.shift.phase) a n =
    subst (λ (s : List ℕ). Written s x.turn.at (end_text x.turn.shift.phase) a n) l.1 x.put in
    let w : Written y.between y.turn.at (end_text y.turn.shift.phase) a n =
    subst (λ (t : Turn). Written y.between t.at (end_text t.shift.phase) a n) l.2 z in
    let s = written_one w y.put in
    (l.0, s.0, s.1)

-- ---- ONE END
pub ends-one : (phase : Phase) (cell : Cell) (rest room room₁ room₂ out a b : List ℕ) (n m : ℕ) → Ends phase cell rest room room₁ out a n
    → Ends phase cell rest room room₂ out b m
    → SameEnd room₁ room₂ a b n m
ends-one (Phase'.Begins kept) cell rest room room₁ room₂ out a b n m x y = unfinished-one kept rest room room₁ room₂ out a b n m x y
ends-one Phase'.Talks cell rest room room₁ room₂ out a b n m x y = closes-one Phase'.Talks cell rest room room₁ room₂ out a b n m x y
ends-one (Phase'.Gathers kept) cell rest room room₁ room₂ out a b n m x y =
    closes-one (Phase'.Gathers kept) cell rest room room₁ room₂ out a b n m x y
ends-one Phase'.Passes cell rest room room₁ room₂ out a b n m x y = closes-one Phase'.Passes cell rest room room₁ room₂ out a b n m x y
ends-one Phase'.Over cell rest room room₁ room₂ out a b n m x y = closes-one Phase'.Over cell rest room room₁ room₂ out a b n m x y
