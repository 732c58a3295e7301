-- WHAT IS ANSWERED TO A KEYBOARD MESSAGE (02, request 1), to the byte. It "answers `mc ACK`, or `mc ee IN ER` with the
-- error or refusal number". A reader has to believe this page.
use Rattle.std.specs.Prelude.{ℕ, Bool, true, false, cond, List, ◌++◌, eqb, Result, Ok, Err}
use Rattle.numbers.specs.Quoted.{bytes}
use Rattle.numbers.specs.Refusals.{number_of}
use Rattle.numbers.specs.declared.Refusal.{Refusal}
use Rattle.text.specs.Writing.{decimal_text}
use Rattle.packets.specs.declared.Answer.{Answer}
use Rattle.packets.specs.declared.Answer.TheVariants as Answer'
use Rattle.keyboard.specs.declared.Fault.{Fault}
use Rattle.keyboard.specs.Messages.{fault_number}
use Rattle.keyboard.specs.declared.Asked.{Asked}
use Rattle.keyboard.specs.declared.Asked.TheVariants as Asked'
use Rattle.keyboard.specs.declared.Word.{Word}
use Rattle.keyboard.specs.declared.Word.TheVariants.{Dwn, Avl, Sel, Del}

-- a message word, in the bulletin's spelling
abbrev pub word_text : Word → List ℕ
word_text Dwn = bytes "DWN"
word_text Avl = bytes "AVL"
word_text Sel = bytes "SEL"
word_text Del = bytes "DEL"

-- the word of a message on a unit: DWN sets the mark, AVL clears it
abbrev pub mark_word : Bool → Word
mark_word true = Dwn
mark_word false = Avl

-- what stands for mc: the message's word; "`---` then stands for mc" where it is unknown
abbrev pub mc_of : Asked → List ℕ
mc_of Asked'.Unknown = bytes "---"
mc_of (Asked'.Wrong word fault) = word_text word
mc_of (Asked'.Mark channel unit on) = word_text (mark_word on)
mc_of Asked'.Release = word_text Sel
mc_of Asked'.Delete = word_text Del

-- "refusal 1 shows as the bulletin's 31"; any other shows as its own number
unfoldable pub shown_number : Refusal → ℕ
shown_number refusal = cond (eqb (number_of refusal) 1) 31 (number_of refusal)

-- ` ACK`
abbrev pub done_text : List ℕ
done_text = bytes " ACK"

-- ` ee IN ER`, the number unpadded
abbrev pub error_text : ℕ → List ℕ
error_text n = bytes " " ++ (decimal_text n ++ bytes " IN ER")

-- what a call answered: `ACK` if it was accepted, else its refusal
abbrev pub said_text : Answer → List ℕ
said_text Answer'.Done = done_text
said_text (Answer'.Started begun) = done_text
said_text (Answer'.Completed place packet leaving) = done_text
said_text (Answer'.Closed place leaving) = done_text
said_text (Answer'.Refused refusal) = error_text (shown_number refusal)

-- what is told: what the call answered, or the first fault of a message in error
abbrev pub Told : Type 0
Told = Result Answer Fault

-- what was told: what the call answered, or of a message in error its first fault. An unknown message, which is no
-- call, is told as one that was refused
abbrev pub told_text : Told → List ℕ
told_text (Ok answer) = said_text answer
told_text (Err fault) = error_text (fault_number fault)

-- THE ANSWER to a message that asks for this and was told that
abbrev pub answer_text : Asked → Told → List ℕ
answer_text asks told = mc_of asks ++ told_text told
