-- KEYBOARD MESSAGES: each does what the existing call does; one with a fault in its fields is told that, an unknown one
-- is answered `--- 17 IN ER`, and neither changes anything. By what the message asks for. Assumes nothing.
use Prim.Native.Nat.{ℕ}
use mathlib.Core.Path.{◌≡◌, refl, ap, subst, ◌∙◌}
use mathlib.Core.Bool.{false}
use mathlib.Core.List.{List}
use mathlib.Core.Option.{some}
use native.Mathlib.Omega.{arith}
use Rattle.numbers.specs.Quoted.{bytes}
use Rattle.numbers.specs.declared.Refusal.TheVariants.{UnknownMessage}
use Rattle.text.specs.Room.{Whole}
use Rattle.text.specs.Writing.{digits_text}
use Rattle.packets.specs.declared.Answer.TheVariants.{Refused}
use Rattle.keyboard.proofs.ReadBack.{first-of-all}
use Rattle.keyboard.specs.Messages.{message_words, read_message}
use Rattle.keyboard.specs.Typed.{known}
use Rattle.keyboard.specs.declared.Asked.{Asked}
use Rattle.keyboard.specs.declared.Asked.TheVariants as Asked'
use Rattle.keyboard.specs.declared.Fault.{Fault}
use Rattle.keyboard.specs.declared.Message.{Message}
use Rattle.keyboard.specs.declared.Word.{Word}
use Rattle.keyboard_answers.specs.MessageAnswers.{answer_text, shown_number}
use Rattle.std.specs.Prelude.{Ok}
use Rattle.cell.specs.Calls.{Keys, heeded}
use Rattle.cell.specs.declared.Cell.{Cell}
use Rattle.cell.specs.declared.Heeded.{Heeded}
use Rattle.cell.specs.declared.KeyAnswer.{KeyAnswer}
use Rattle.cell_history.proofs.MeantLaws.{by-meant}
use Rattle.cell_history.specs.History.{Call, Does, Key, Mistyped, Reply, meant, reply_of}

pub typed-so : (c d : Cell) (message : List ℕ) (reply : Reply) (x : Call) → Does c (Key message) reply d → meant (Key message) ≡ some x
    → Does c x reply d
typed-so c d message reply x h q =
    by-meant (λ o. o ≡ some x → Does c x reply d) c d reply (λ e n. absurd (let z : ◌≡◌ {A = ℕ} 0 1 = cc in omega arith))
    (λ y p k s. let i : y ≡ x = cc in subst (λ (w : Call). Does c w reply d) i k) (Key message) h q

pub mistyped-so : (c d : Cell) (message : List ℕ) (reply : Reply) (word : Word) (fault : Fault) → Does c (Key message) reply d
    → (read_message message).asks ≡ Asked'.Wrong word fault → (reply ≡ Mistyped fault) × (d ≡ c)
mistyped-so c d message reply word fault h q =
    let k = h.2.1.0.does ∙ ap (λ (a : Asked). heeded c a (read_message message).id) q in
    (h.2.1.1.0 ∙ ap (λ (x : Heeded). reply_of x.told) k, h.2.1.1.1 ∙ ap (λ (x : Heeded). x.cell) k)

pub faulty-so : (c d : Cell) (message : List ℕ) (fault : Fault) → Does c (Key message) (Mistyped fault) d
    → (word : Word) × ((read_message message).asks ≡ Asked'.Wrong word fault)
faulty-so c d message fault h =
    by (read_message message).asks refl (h.2.1.1.0 ∙ ap (λ (x : Heeded). reply_of x.told) h.2.1.0.does)
  where
    by : (a : Asked) → (read_message message).asks ≡ a → Mistyped fault ≡ reply_of (heeded c a (read_message message).id).told
        → (word : Word) × ((read_message message).asks ≡ Asked'.Wrong word fault)
    by Asked'.Unknown e q = absurd (let z : ◌≡◌ {A = ℕ} 0 1 = cc in omega arith)
    by (Asked'.Wrong word f) e q = let i : f ≡ fault = cc in (word, e ∙ ap (Asked'.Wrong word) i)
    by (Asked'.Mark channel unit on) e q = absurd (let z : ◌≡◌ {A = ℕ} 0 1 = cc in omega arith)
    by Asked'.Release e q = absurd (let z : ◌≡◌ {A = ℕ} 0 1 = cc in omega arith)
    by Asked'.Delete e q = absurd (let z : ◌≡◌ {A = ℕ} 0 1 = cc in omega arith)

-- an unknown message: what is told, and so its text
unknown-text : answer_text Asked'.Unknown (Ok (Refused UnknownMessage)) ≡ bytes "--- 17 IN ER"
unfolding shown_number digits_text
unknown-text = refl

pub unknown-so : (c : Cell) (message room after : List ℕ) (r : KeyAnswer) → Keys c message room after r → known (message_words message) ≡ false
    → Whole (bytes "--- 17 IN ER") room after r.at × (r.cell ≡ c)
unknown-so c message room after r h k =
    let q : (read_message message).asks ≡ Asked'.Unknown = ap (λ (m : Message). m.asks) ((first-of-all message).0 k) in
    let e = h.does ∙ ap (λ (a : Asked). heeded c a (read_message message).id) q in
    let t : r.told ≡ Ok (Refused UnknownMessage) = ap (λ (x : Heeded). x.told) e in (
      subst (λ (p : List ℕ). Whole p room after r.at)
          (ap (λ (a : Asked). answer_text a r.told) q ∙ ap (answer_text Asked'.Unknown) t ∙ unknown-text) h.text,
      ap (λ (x : Heeded). x.cell) e,
    )
