-- A card: its fields, read loosely on any bytes, and whether it is malformed.
use Rattle.std.specs.Prelude.{ℕ, zero, suc, Bool, true, false, cond, ◌&&◌, ◌||◌, not, List, [], ◌∷◌, ◌++◌, eqb, ltb, leb, length, get_or}
use Rattle.numbers.specs.Quoted.{byte, bytes}
use Rattle.numbers.specs.Limits.{card_length}
use Rattle.text.specs.Class.{is_alnum, is_digit}
use Rattle.words.specs.Words.{every, has, same}
use Rattle.cards_fields.specs.declared.Field.{Field}

-- "a period or line end ends all fields": what stands before the first period
abbrev pub up_to_period : List ℕ → List ℕ
up_to_period [] = []
up_to_period (b ∷ s) = cond (eqb b (byte ".")) [] (b ∷ up_to_period s)

-- "Spaces are dropped"
abbrev pub spaceless : List ℕ → List ℕ
spaceless [] = []
spaceless (b ∷ s) = cond (eqb b (byte " ")) (spaceless s) (b ∷ spaceless s)

-- one byte more in front of the first piece
abbrev pub onto : ℕ → List (List ℕ) → List (List ℕ)
onto b [] = (b ∷ []) ∷ []
onto b (f ∷ fs) = (b ∷ f) ∷ fs

-- a text cut at each of a byte: one piece more than it has of them
abbrev pub pieces : ℕ → List ℕ → List (List ℕ)
pieces cut [] = [] ∷ []
pieces cut (b ∷ s) = cond (eqb b cut) ([] ∷ pieces cut s) (onto b (pieces cut s))

-- "fields split by commas"
abbrev pub split : List ℕ → List (List ℕ)
split s = pieces (byte ",") s

-- a card's fields
unfoldable pub fields : List ℕ → List (List ℕ)
fields s = split (spaceless (up_to_period s))

-- the field at an index, the first at 0; a missing field is empty
abbrev pub field : List ℕ → ℕ → List ℕ
field s k = get_or (fields s) k []

-- the field at an index as it stands on the card, its spaces in it
abbrev pub raw_field : List ℕ → ℕ → List ℕ
raw_field s k = get_or (pieces (byte ",") (up_to_period s)) k []

-- the field at an index is a word of at most twelve bytes
abbrev pub field_is : List ℕ → ℕ → List ℕ → Bool
field_is s k word = leb (length word) 12 && same (field s k) word

-- "A card whose second field .. is PTY opens a group"
abbrev pub is_pty : List ℕ → Bool
is_pty s = same (field s 1) (bytes "PTY")

-- "A-Z, 0-9, space and - / * = : , ."
unfoldable pub card_byte : ℕ → Bool
card_byte b = is_alnum b || has (bytes " -/*=:,.") b

-- such characters alone, and a period with only spaces after it; `over`: the period was passed
abbrev pub closed : Bool → List ℕ → Bool
closed over [] = over
closed true (b ∷ s) = card_byte b && (eqb b (byte " ") && closed true s)
closed false (b ∷ s) = card_byte b && closed (eqb b (byte ".")) s

-- "a card is at most 80 characters of .., with a period and only spaces after it; else it is malformed"
unfoldable pub malformed : List ℕ → Bool
malformed s = ltb card_length (length s) || not (closed false s)

-- digits, and at least one
abbrev pub digits : List ℕ → Bool
digits t = leb 1 (length t) && every is_digit t

-- "1-6 letters or digits": a name, as an ID is
unfoldable pub is_name : List ℕ → Bool
is_name t = leb 1 (length t) && (leb (length t) 6 && every is_alnum t)

-- what follows a written card's first field: a comma before each other, a period behind the last
abbrev pub tail_text : List (List ℕ) → List ℕ
tail_text [] = byte "." ∷ []
tail_text (f ∷ fs) = byte "," ∷ (f ++ tail_text fs)

-- fields as a written card
abbrev pub card_text : List (List ℕ) → List ℕ
card_text [] = byte "." ∷ []
card_text (f ∷ fs) = f ++ tail_text fs

-- a name or a text in a fixed width: blanks fill what is left
abbrev pub padded : ℕ → List ℕ → List ℕ
padded zero s = []
padded (suc w) [] = byte " " ∷ padded w []
padded (suc w) (b ∷ s) = b ∷ padded w s

-- a field as the code holds it: its first twelve bytes, and how long it is
abbrev pub field_of : List ℕ → Field
field_of t = record { bytes = padded 12 t; len = length t }
