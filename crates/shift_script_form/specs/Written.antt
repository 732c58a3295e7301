-- How the calls of a script are written.
use Rattle.std.specs.Prelude.{ℕ, zero, suc, ◌+◌, ◌/◌, ◌%◌, ◌^◌, ◌≤◌, ◌<◌, ◌≡◌, true, false, cond, List, [], ◌∷◌, ◌++◌, ltb, length}
use Rattle.numbers.specs.Quoted.{byte, bytes}
use Rattle.units.specs.declared.Mark.TheVariants as Mark'
use Rattle.packets.specs.declared.Spot.TheVariants.{OnDrum, OnUnit}
use Rattle.packets.specs.declared.How.TheVariants.{Full, Cut, Failed}
use Rattle.line_words.specs.declared.Base.{Base}
use Rattle.line_words.specs.declared.Base.TheVariants.{Decimal, Octal}
use Rattle.line_words.specs.Forms.{IsWord, base_of}
use Rattle.packets.specs.declared.Act.TheVariants.{Submit, Start, Complete, End, Return, Mark}
use Rattle.shift_script.specs.declared.Line.{Line}
use Rattle.shift_script.specs.declared.Line.TheVariants.{NoCall, Echo, Deck, Select, Board, Do}
use Rattle.shift_script.specs.declared.Line.TheVariants.{Release, Delete, Status, Key}

-- words with single spaces between them
abbrev pub spaced : List (List ℕ) → List ℕ
spaced [] = []
spaced (word ∷ []) = word
spaced (word ∷ (next ∷ words)) = word ++ (byte " " ∷ spaced (next ∷ words))

-- the digits of n in a base: those of n / base, then that of n % base; `most` is as large as n
unfoldable pub digits_in : ℕ → ℕ → ℕ → List ℕ
digits_in base zero n = (byte "0" + n) ∷ []
digits_in base (suc most) n = cond (ltb n base) ((byte "0" + n) ∷ []) (digits_in base most (n / base) ++ ((byte "0" + n % base) ∷ []))

abbrev pub number_text : Base → ℕ → List ℕ
number_text base n = digits_in (base_of base) n n

abbrev pub decimal : ℕ → List ℕ
decimal n = number_text Decimal n

abbrev pub octal : ℕ → List ℕ
octal n = number_text Octal n

-- the words of a call; `id` is the word that a release or a deletion names
abbrev pub call_words : Line → List ℕ → List (List ℕ)
call_words NoCall id = []
call_words Echo id = []
call_words Deck id = bytes "DECK" ∷ []
call_words Select id = bytes "SELECT" ∷ []
call_words Board id = bytes "BOARD" ∷ []
call_words (Do (Submit place packet function channel (OnUnit unit))) id = []
call_words (Do (Submit place packet function channel (OnDrum x h))) id =
    bytes "SUBMIT" ∷ decimal place ∷ decimal packet ∷ octal function ∷ decimal channel.0 ∷ decimal x ∷ decimal h ∷ []
call_words (Do (Start channel)) id = bytes "START" ∷ decimal channel.0 ∷ []
call_words (Do (Complete channel Full)) id = bytes "DONE" ∷ decimal channel.0 ∷ []
call_words (Do (Complete channel Cut)) id = bytes "CUT" ∷ decimal channel.0 ∷ []
call_words (Do (Complete channel (Failed code))) id = bytes "FAIL" ∷ decimal channel.0 ∷ octal code ∷ []
call_words (Do (End place false)) id = bytes "END" ∷ decimal place ∷ []
call_words (Do (End place true)) id = bytes "ABORT" ∷ decimal place ∷ []
call_words (Do (Return place channel unit)) id = bytes "RETURN" ∷ decimal place ∷ decimal channel.0 ∷ decimal unit.0 ∷ []
call_words (Do (Mark channel unit Mark'.Down true)) id = bytes "DOWN" ∷ decimal channel.0 ∷ decimal unit.0 ∷ []
call_words (Do (Mark channel unit Mark'.Down false)) id = bytes "UP" ∷ decimal channel.0 ∷ decimal unit.0 ∷ []
call_words (Do (Mark channel unit Mark'.Reserved true)) id = bytes "RESERVE" ∷ decimal channel.0 ∷ decimal unit.0 ∷ []
call_words (Do (Mark channel unit Mark'.Reserved false)) id = bytes "UNRESERVE" ∷ decimal channel.0 ∷ decimal unit.0 ∷ []
call_words Release id = bytes "RELEASE" ∷ id ∷ []
call_words Delete id = bytes "DELETE" ∷ id ∷ []
call_words (Status place packet) id = bytes "STATUS" ∷ decimal place ∷ decimal packet ∷ []
call_words Key id = []

-- the line of a call
abbrev pub line_for : Line → List ℕ → List ℕ
line_for line id = spaced (call_words line id)

-- the line of a keyboard message: it is handed over as it stands
abbrev pub key_line : List ℕ → List ℕ
key_line message = bytes "KEY " ++ message

-- what a line can say of a call of the table: numbers of nine digits, of eight bits where the call takes no more. And a
-- word for an ID, as long as a line can hold it
abbrev pub Sayable : Line → List ℕ → Type 0
Sayable NoCall id = ⊥
Sayable Echo id = ⊥
Sayable Deck id = id ≡ []
Sayable Select id = id ≡ []
Sayable Board id = id ≡ []
Sayable (Do (Submit place packet function channel (OnUnit unit))) id = ⊥
Sayable (Do (Submit place packet function channel (OnDrum x h))) id =
    (id ≡ []) × (place ≤ 255) × (packet ≤ 255) × (function ≤ 255) × (channel.0 ≤ 255) × (x < 10 ^ 9) × (h < 10 ^ 9)
Sayable (Do (Start channel)) id = (id ≡ []) × (channel.0 ≤ 255)
Sayable (Do (Complete channel Full)) id = (id ≡ []) × (channel.0 ≤ 255)
Sayable (Do (Complete channel Cut)) id = (id ≡ []) × (channel.0 ≤ 255)
Sayable (Do (Complete channel (Failed code))) id = (id ≡ []) × (channel.0 ≤ 255) × (code ≤ 255)
Sayable (Do (End place in_error)) id = (id ≡ []) × (place ≤ 255)
Sayable (Do (Return place channel unit)) id = (id ≡ []) × (place ≤ 255) × (channel.0 ≤ 255) × (unit.0 ≤ 255)
Sayable (Do (Mark channel unit mark on)) id = (id ≡ []) × (channel.0 ≤ 255) × (unit.0 ≤ 255)
Sayable Release id = IsWord id × (length id ≤ 247)
Sayable Delete id = IsWord id × (length id ≤ 247)
Sayable (Status place packet) id = (id ≡ []) × (place ≤ 255) × (packet ≤ 255)
Sayable Key id = ⊥
