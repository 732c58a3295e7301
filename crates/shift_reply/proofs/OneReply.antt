-- A line has one answer: what is promised of it leaves one text, one room and one cell. Assumes nothing.
use Prim.Native.Nat.{ℕ}
use mathlib.Core.Path.{◌≡◌, sym, ap, ap₂, subst, ◌∙◌}
use mathlib.Core.List.{List}
use Rattle.text.proofs.RoomLaws.{written_one}
use Rattle.cell_selection.proofs.SelectingLaws.{takes_one}
use Rattle.cell_selection.specs.declared.Taking.{Taking}
use Rattle.cell.specs.Calls.{cell_of, outcome_of, SelectsIn}
use Rattle.cell.specs.declared.Cell.{Cell}
use Rattle.cell.specs.declared.SelectAnswer.{SelectAnswer}
use Rattle.shift_script.specs.declared.Line.{Line}
use Rattle.shift_script.specs.declared.Line.TheVariants as Line'
use Rattle.shift_reply.specs.Replies.{select_text, Shows, Selects, Replies}
use Rattle.shift_reply.specs.declared.Replied.{Replied}

abbrev replied : Cell → ℕ → Replied
replied cell at = record { cell = cell; at = at }

pub shows-one : {text room a b : List ℕ} {next : Cell} {r q : Replied} → Shows text next room a r → Shows text next room b q → (a ≡ b) × (r ≡ q)
shows-one x y = let w = written_one x.put y.put in (w.0, ap₂ replied (x.cell ∙ sym y.cell) w.1)

-- the text of a selection
abbrev shown_by : Cell → SelectAnswer → List ℕ
shown_by cell s = select_text s.outcome s.selection cell.lists.channels

-- one selection
abbrev taken_by : SelectAnswer → Taking
taken_by a = record { selection = a.selection; schedule = a.cell.schedule; lists = a.cell.lists }

abbrev answer_by : Taking → SelectAnswer
answer_by t = record { outcome = outcome_of t.selection.choice; selection = t.selection; cell = cell_of t.schedule t.lists }

answer-is : (cell : Cell) (a : SelectAnswer) → SelectsIn cell a → a ≡ answer_by (taken_by a)
answer-is cell a s = rw (← s.outcome)

selects-once : (cell : Cell) (a b : SelectAnswer) → SelectsIn cell a → SelectsIn cell b → a ≡ b
selects-once cell a b s t =
    answer-is cell a s ∙ ap answer_by (takes_one cell.schedule cell.lists (taken_by a) (taken_by b) s.takes t.takes)
    ∙ sym (answer-is cell b t)

pub selects-one : {cell : Cell} {room a b : List ℕ} {r q : Replied} → Selects cell room a r → Selects cell room b q → (a ≡ b) × (r ≡ q)
selects-one {cell} {room} {a} {b} {r} {q} x y =
    let e = selects-once cell x.answer y.answer x.selects y.selects in
    let z : Shows (shown_by cell y.answer) y.answer.cell room a r =
    subst (λ (s : SelectAnswer). Shows (shown_by cell s) s.cell room a r) e x.shows in
    shows-one z y.shows

-- and one answer to every line
pub replies-one : (cell : Cell) (said : Line) (id line room a b : List ℕ) (r q : Replied) → Replies cell said id line room a r
    → Replies cell said id line room b q → (a ≡ b) × (r ≡ q)
replies-one cell Line'.NoCall id line room a b r q x y = shows-one x y
replies-one cell Line'.Echo id line room a b r q x y = shows-one x y
replies-one cell Line'.Deck id line room a b r q x y = shows-one x y
replies-one cell Line'.Select id line room a b r q x y = selects-one x y
replies-one cell Line'.Board id line room a b r q x y = shows-one x y
replies-one cell (Line'.Do act) id line room a b r q x y = shows-one x y
replies-one cell Line'.Release id line room a b r q x y = shows-one x y
replies-one cell Line'.Delete id line room a b r q x y = shows-one x y
replies-one cell (Line'.Status p k) id line room a b r q x y = shows-one x y
replies-one cell Line'.Key id line room a b r q x y = shows-one x y
