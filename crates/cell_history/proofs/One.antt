-- ONE OUTCOME: the contracts leave each call one answer and one cell, so that the same calls from the same cell are
-- answered alike and lead to the same cell. Assumes nothing.
use mathlib.Core.Path.{◌≡◌, sym, ap, subst, ◌∙◌}
use mathlib.Core.List.{List}
use Prim.Native.Nat.{ℕ}
use Rattle.cell_selection.proofs.SelectingLaws.{takes_one}
use Rattle.cell_selection.specs.declared.Selection.{Selection}
use Rattle.cell_selection.specs.declared.Taking.{Taking}
use Rattle.text.specs.Room.{Whole}
use Rattle.text.proofs.RoomLaws.{whole-one}
use Rattle.keyboard.specs.Messages.{read_message}
use Rattle.keyboard_answers.specs.MessageAnswers.{answer_text}
use Rattle.keyboard_answers.specs.MessageAnswers.{Told}
use Rattle.cell.specs.Calls.{Enters, Keys, SelectsIn, outcome_of}
use Rattle.cell.specs.declared.Cell.{Cell}
use Rattle.cell.specs.declared.DeckAnswer.{DeckAnswer}
use Rattle.cell.specs.declared.Heeded.{Heeded}
use Rattle.cell.specs.declared.KeyAnswer.{KeyAnswer}
use Rattle.cell.specs.declared.SelectAnswer.{SelectAnswer}
use Rattle.cell_history.specs.History.{Call, Chosen, Deck, Delete, Do, Does, Entered, Key, Release, Reply, Select, Status, reply_of}

-- two answers to one deck, whatever room was lent: the same outcome and the same cell
pub enters-one : (c : Cell) (bytes room after room₁ after₁ : List ℕ) (r s : DeckAnswer) → Enters c bytes room after r → Enters c bytes room₁ after₁ s
    → (r.outcome ≡ s.outcome) × (r.cell ≡ s.cell)
enters-one c bytes room after room₁ after₁ r s a b =
    let o : r.outcome ≡ s.outcome = a.deck.outcome ∙ sym b.deck.outcome in
    let k : r.cell.schedule ≡ s.cell.schedule = a.deck.then ∙ sym b.deck.then in
    let l : r.cell.lists ≡ s.cell.lists = a.lists ∙ sym b.lists in
    (o, λ i. record { schedule = k i; lists = l i })

-- two selections
pub selects-in-one : (c : Cell) (r s : SelectAnswer) → SelectsIn c r → SelectsIn c s → r ≡ s
selects-in-one c r s a b =
    let t = takes_one c.schedule c.lists _ _ a.takes b.takes in
    let x : r.selection ≡ s.selection = ap (λ (y : Taking). y.selection) t in
    let o : r.outcome ≡ s.outcome = a.outcome ∙ ap (λ (y : Selection). outcome_of y.choice) x ∙ sym b.outcome in
    let k : r.cell.schedule ≡ s.cell.schedule = ap (λ (y : Taking). y.schedule) t in
    let l : r.cell.lists ≡ s.cell.lists = ap (λ (y : Taking). y.lists) t in
    λ i. record { outcome = o i; selection = x i; cell = record { schedule = k i; lists = l i } }

-- two answers to one message, whatever room was lent: the same is told, and the same cell
pub keys-one : (c : Cell) (message room after room₁ after₁ : List ℕ) (r s : KeyAnswer) → Keys c message room after r → Keys c message room₁ after₁ s
    → (r.told ≡ s.told) × (r.cell ≡ s.cell)
keys-one c message room after room₁ after₁ r s a b =
    let e = a.does ∙ sym b.does in
    (ap (λ (h : Heeded). h.told) e, ap (λ (h : Heeded). h.cell) e)

-- and in one room the same text
pub keys-text : (c : Cell) (message room after after₁ : List ℕ) (r s : KeyAnswer) → Keys c message room after r → Keys c message room after₁ s
    → (after ≡ after₁) × (r.at ≡ s.at)
keys-text c message room after after₁ r s a b =
    let k = keys-one c message room after room after₁ r s a b in
    whole-one a.text (subst (λ (t : Told). Whole (answer_text (read_message message).asks t) room after₁ s.at) (sym k.0) b.text)

-- EACH CALL HAS ONE ANSWER AND LEAVES ONE CELL
pub does-one : (c : Cell) (x : Call) (r s : Reply) (d e : Cell) → Does c x r d → Does c x s e → (r ≡ s) × (d ≡ e)
does-one c (Deck bytes) r s d e a b =
    let k = enters-one c bytes a.0 a.1 b.0 b.1 a.2.0 b.2.0 a.2.1.0 b.2.1.0 in
    (a.2.1.1.0 ∙ ap Entered k.0 ∙ sym b.2.1.1.0, a.2.1.1.1 ∙ k.1 ∙ sym b.2.1.1.1)
does-one c Select r s d e a b =
    let k = selects-in-one c a.0 b.0 a.1.0 b.1.0 in (
      a.1.1.0 ∙ ap (λ (y : SelectAnswer). Chosen y.outcome y.selection) k ∙ sym b.1.1.0,
      a.1.1.1 ∙ ap (λ (y : SelectAnswer). y.cell) k ∙ sym b.1.1.1,
    )
does-one c (Do x) r s d e a b = (a.0 ∙ sym b.0, a.1 ∙ sym b.1)
does-one c (Release id) r s d e a b = (a.0 ∙ sym b.0, a.1 ∙ sym b.1)
does-one c (Delete id) r s d e a b = (a.0 ∙ sym b.0, a.1 ∙ sym b.1)
does-one c (Status j p) r s d e a b = (a.0 ∙ sym b.0, a.1 ∙ sym b.1)
does-one c (Key message) r s d e a b =
    let k = keys-one c message a.0 a.1 b.0 b.1 a.2.0 b.2.0 a.2.1.0 b.2.1.0 in
    (a.2.1.1.0 ∙ ap reply_of k.0 ∙ sym b.2.1.1.0, a.2.1.1.1 ∙ k.1 ∙ sym b.2.1.1.1)
