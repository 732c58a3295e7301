-- What the parts of a reply come to. Assumes nothing.
use Prim.Native.Nat.{ℕ}
use mathlib.Core.Path.{◌≡◌, refl, sym, ap, ap₂, subst, ◌∙◌}
use mathlib.Core.List.{List, ◌++◌}
use lib.ListN.{length, take}
use Rattle.numbers.specs.Quoted.{bytes}
use Rattle.text.specs.Room.{Written}
use Rattle.text.proofs.RoomLaws.{and_then, whole-front}
use Rattle.keyboard.specs.Messages.{read_message}
use Rattle.keyboard_answers.specs.MessageAnswers.{answer_text as key_text}
use Rattle.schedule_deck.specs.Report.{deck_notes}
use Rattle.schedule_deck.proofs.Bounds.{noted-put}
use Rattle.cell.specs.Calls.{Outcome, cell_of, Enters, Keys}
use Rattle.cell.specs.declared.Answered.{Answered}
use Rattle.cell.specs.declared.Cell.{Cell}
use Rattle.cell.specs.declared.DeckAnswer.{DeckAnswer}
use Rattle.cell.specs.declared.Heeded.{Heeded}
use Rattle.cell.specs.declared.KeyAnswer.{KeyAnswer}
use Rattle.shift_reply.specs.Replies.{refusal_text, Shows, Gives, EntersDeck, keyed, KeysMessage}
use Rattle.shift_reply.specs.declared.Replied.{Replied}

pub entered : (cell : Cell) (deck room mid after : List ℕ) (a : DeckAnswer) (n : ℕ) → length mid ≡ 53248 → Enters cell deck room mid a
    → Written mid a.at (refusal_text a.outcome) after n → EntersDeck cell deck room after (record { cell = a.cell; at = n })
entered cell deck room mid after a n l e w =
    record {
      cell = ap₂ cell_of e.deck.then e.lists;
      put = subst (λ (o : Outcome). Written room 0 (deck_notes cell.schedule deck ++ refusal_text o) after n) e.deck.outcome
          (and_then (noted-put cell.schedule deck l e.deck.text) w);
    }

-- a line that changes nothing
-- the bytes that were lent are those of the room, where it still lends the same
pub back : {A : Type 0} {a b : A} {room text x y : List ℕ} {at r : ℕ} → b ≡ a → (a ≡ b → x ≡ y) → Written room at text y r
    → Written room at text x r
back {room = room} {text = text} {at = at} {r = r} e f w = subst (λ (l : List ℕ). Written room at text l r) (sym (f (sym e))) w

pub shown : {text room after : List ℕ} {cell : Cell} {n : ℕ} {r : Replied} → r ≡ record { cell = cell; at = n } → Written room 0 text after n
    → Shows text cell room after r
shown e w = rw e (record { cell = refl; put = w })

-- the answer of a call is the answer that its contract gives
pub gives_as : {a b : Answered} {room after : List ℕ} {r : Replied} → a ≡ b → Gives a room after r → Gives b room after r
gives_as {room = room} {after = after} {r = r} e g = subst (λ (x : Answered). Gives x room after r) e g

-- a keyboard message: its answer, which stands whole in the room lent for it, put from the start on, and an LF
pub keys : {cell : Cell} {message lent left room mid after : List ℕ} {a : KeyAnswer} {m n : ℕ} → Keys cell message lent left a
    → Written room 0 (take a.at left) mid m → Written mid m (bytes "\n") after n
    → KeysMessage cell message room after (record { cell = a.cell; at = n })
keys {cell} {message} {lent} {left} {room} {mid} {after} {a} {m} {n} k v w =
    let asks = (read_message message).asks in
    let t : take a.at left ≡ key_text asks (keyed cell message).told =
    whole-front k.text ∙ ap (λ (h : Heeded). key_text asks h.told) k.does in
    record {
      cell = ap (λ (h : Heeded). h.cell) k.does;
      put = subst (λ (s : List ℕ). Written room 0 (s ++ bytes "\n") after n) t (and_then v w);
    }

pub keys-as : (cell : Cell) {s t room after : List ℕ} {r : Replied} → s ≡ t → KeysMessage cell s room after r → KeysMessage cell t room after r
keys-as cell {room = room} {after = after} {r = r} e k = subst (λ (m : List ℕ). KeysMessage cell m room after r) e k
