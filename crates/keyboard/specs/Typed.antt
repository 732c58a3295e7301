-- What is shown of the reader of keyboard messages. A call is read back from the message that is written for it, and an
-- unknown message is found before everything else. A reader has to believe this page.
use Rattle.std.specs.Prelude.{ℕ, ◌≤◌, ◌≡◌, Bool, true, false, cond, ◌||◌, List, [], ◌∷◌, ◌++◌, leb, length}
use Rattle.std.proofs.Math.Option.{Option, none, some}
use Rattle.numbers.specs.Quoted.{bytes}
use Rattle.text.specs.Writing.{two_text}
use Rattle.words.specs.Words.{same}
use Rattle.line_words.specs.Forms.{IsWord}
use Rattle.keyboard.specs.Messages.{message_words, read_message, saying}
use Rattle.keyboard.specs.declared.Asked.{Asked}
use Rattle.keyboard.specs.declared.Asked.TheVariants.{Unknown, Wrong, Mark, Release, Delete}

-- ---- written messages

-- the fields `Ccc Uuu`, two digits each
abbrev pub unit_text : ℕ → ℕ → List ℕ
unit_text channel unit = bytes " C" ++ (two_text channel ++ (bytes " U" ++ two_text unit))

-- a call "in the bulletin's spelling"; `id` is the word that a release or a deletion names
abbrev pub typed : Asked → List ℕ → List ℕ
typed Unknown id = []
typed (Wrong word fault) id = []
typed (Mark channel unit true) id = bytes "DWN" ++ unit_text channel.0 unit.0
typed (Mark channel unit false) id = bytes "AVL" ++ unit_text channel.0 unit.0
typed Release id = bytes "SEL " ++ id
typed Delete id = bytes "DEL " ++ id

-- the calls that a message can write: channel and unit 0 to 15, any word for an ID
abbrev pub Typable : Asked → List ℕ → Type 0
Typable Unknown id = ⊥
Typable (Wrong word fault) id = ⊥
Typable (Mark channel unit on) id = (id ≡ []) × (channel.0 ≤ 15) × (unit.0 ≤ 15)
Typable Release id = IsWord id
Typable Delete id = IsWord id

-- A WRITTEN MESSAGE IS READ BACK as the call that was written
abbrev pub ReadBack : Type 0
ReadBack = (call : Asked) (id : List ℕ) → Typable call id → read_message (typed call id) ≡ saying call id

-- ---- unknown messages

-- how many fields follow a message word, if it is one
unfoldable pub fields_of : List ℕ → Option ℕ
fields_of word =
    cond (same word (bytes "DWN") || same word (bytes "AVL")) (some 2) (cond (same word (bytes "SEL") || same word (bytes "DEL")) (some 1) none)

-- there are no more fields than that
abbrev pub within : Option ℕ → List (List ℕ) → Bool
within none fields = false
within (some n) fields = leb (length fields) n

-- the first word is a message word, and no text follows its last field
abbrev pub known : List (List ℕ) → Bool
known [] = false
known (word ∷ fields) = within (fields_of word) fields

-- "17 unknown message word, checked before everything else". Whatever else is wrong with it, a message is unknown
-- exactly if it has no message word in front or text follows its last field
abbrev pub FirstOfAll : Type 0
FirstOfAll = (message : List ℕ) → (known (message_words message) ≡ false → read_message message ≡ saying Unknown [])
    × ((read_message message).asks ≡ Unknown → known (message_words message) ≡ false)
