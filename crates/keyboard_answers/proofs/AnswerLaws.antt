-- An answer has at most twelve characters, whatever was asked for and told: three for mc, and a number of two digits at
-- most. Assumes nothing.
use Prim.Native.Nat.{ℕ, ◌≤◌, ◌<◌}
use mathlib.Core.Path.{◌≡◌}
use mathlib.Core.List.{List, ◌++◌}
use native.Mathlib.Omega.{arith}
use lib.Dec.{eqb}
use lib.ListN.{length, length-append}
use Rattle.numbers.proofs.Tests.{by_bool}
use Rattle.numbers.proofs.RefusalLaws.{two_digits}
use Rattle.numbers.specs.Quoted.{bytes}
use Rattle.numbers.specs.Refusals.{number_of}
use Rattle.numbers.specs.declared.Refusal.{Refusal}
use Rattle.text.specs.Room.{Whole, Written}
use Rattle.text.specs.Writing.{decimal_text}
use Rattle.text.proofs.RoomLaws.{entire}
use Rattle.text.proofs.Undo.{few-digits}
use Rattle.packets.specs.declared.Answer.{Answer}
use Rattle.packets.specs.declared.Answer.TheVariants as Answer'
use Rattle.keyboard.specs.Messages.{fault_number}
use Rattle.keyboard.specs.declared.Asked.{Asked}
use Rattle.keyboard.specs.declared.Asked.TheVariants as Asked'
use Rattle.keyboard.specs.declared.Fault.{Fault}
use Rattle.keyboard.specs.declared.Fault.TheVariants.{NoLength, UnitTooLarge, NotADigit, ChannelTooLarge}
use Rattle.keyboard.specs.declared.Word.{Word}
use Rattle.keyboard.specs.declared.Word.TheVariants.{Dwn, Avl, Sel, Del}
use Rattle.keyboard_answers.specs.MessageAnswers.{word_text, mark_word, mc_of, shown_number, error_text, said_text, told_text, answer_text, Told}
use Rattle.std.specs.Prelude.{Ok, Err}

-- ---- lengths

shown-few : (refusal : Refusal) → shown_number refusal < 100
unfolding shown_number
shown-few refusal =
    by_bool (eqb (number_of refusal) 1) (λ t. rw t (omega arith)) (λ t. rw t (two_digits refusal))

fault-few : (fault : Fault) → fault_number fault < 100
fault-few NoLength = omega arith
fault-few UnitTooLarge = omega arith
fault-few NotADigit = omega arith
fault-few ChannelTooLarge = omega arith

error-short : (n : ℕ) → n < 100 → length (error_text n) ≤ 9
error-short n h =
    omega (arith, few-digits 1 n h, length-append (bytes " ") (decimal_text n ++ bytes " IN ER"), length-append (decimal_text n) (bytes " IN ER"))

said-short : (answer : Answer) → length (said_text answer) ≤ 9
said-short Answer'.Done = omega arith
said-short (Answer'.Started begun) = omega arith
said-short (Answer'.Completed place packet leaving) = omega arith
said-short (Answer'.Closed place leaving) = omega arith
said-short (Answer'.Refused refusal) = error-short (shown_number refusal) (shown-few refusal)

told-short : (told : Told) → length (told_text told) ≤ 9
told-short (Ok answer) = said-short answer
told-short (Err fault) = error-short (fault_number fault) (fault-few fault)

word-short : (word : Word) → length (word_text word) ≤ 3
word-short Dwn = omega arith
word-short Avl = omega arith
word-short Sel = omega arith
word-short Del = omega arith

mc-short : (asks : Asked) → length (mc_of asks) ≤ 3
mc-short Asked'.Unknown = omega arith
mc-short (Asked'.Wrong word fault) = word-short word
mc-short (Asked'.Mark channel unit on) = word-short (mark_word on)
mc-short Asked'.Release = omega arith
mc-short Asked'.Delete = omega arith

-- EVERY ANSWER FITS twelve characters
pub answer-short : (asks : Asked) (told : Told) → length (answer_text asks told) ≤ 12
answer-short asks told = omega (arith, mc-short asks, told-short told, length-append (mc_of asks) (told_text told))

pub answer-whole : (asks : Asked) (told : Told) {room after· : List ℕ} {r : ℕ} → length room ≡ 12 → Written room 0 (answer_text asks told) after· r
    → Whole (answer_text asks told) room after· r
answer-whole asks told l w = entire w (omega (arith, answer-short asks told))
