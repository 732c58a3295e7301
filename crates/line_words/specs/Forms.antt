-- A line's words, and the forms that they are held to. A form is a line of the script's table, `SUBMIT p k ff cc x`. A
-- word in capitals means itself, `ff` an octal number, `id` any word, and any other a decimal number.
use Rattle.std.specs.Prelude.{ℕ, ◌+◌, ◌-◌, ◌*◌, ◌<◌, ◌≡◌, Bool, true, false, cond, ◌&&◌, List, [], ◌∷◌, eqb, ltb, leb, length, get_or}
use Rattle.numbers.specs.Quoted.{byte, bytes}
use Rattle.text.specs.Class.{is_letter}
use Rattle.words.specs.Words.{every, has, isnt, same}
use Rattle.cards_fields.specs.Fields.{onto, padded}
use Rattle.line_words.specs.declared.Base.{Base}
use Rattle.line_words.specs.declared.Base.TheVariants.{Decimal, Octal}

-- "words separated by single spaces": every space ends a word, so two of them have an empty word between them
unfoldable pub words_of : List ℕ → List (List ℕ)
words_of [] = [] ∷ []
words_of (b ∷ s) = cond (eqb b (byte " ")) ([] ∷ words_of s) (onto b (words_of s))

-- a word of a line: at least one byte, and no space among them
pub record IsWord (s : List ℕ) : Type 0 where
  pub some : 0 < length s
  pub plain : every (isnt (byte " ")) s ≡ true

-- "Numbers are decimal, 1 to 9 digits, leading zeros allowed; `ff` is octal, 1 to 9 digits of 0-7"
abbrev pub digits : Base → List ℕ
digits Decimal = bytes "0123456789"
digits Octal = bytes "01234567"

unfoldable pub is_number : Base → List ℕ → Bool
is_number base word = ltb 0 (length word) && (leb (length word) 9 && every (has (digits base)) word)

-- the number that digits write, those of n before them
abbrev pub value_in : ℕ → ℕ → List ℕ → ℕ
value_in base n [] = n
value_in base n (b ∷ s) = value_in base (n * base + (b - byte "0")) s

abbrev pub base_of : Base → ℕ
base_of Decimal = 10
base_of Octal = 8

-- the number that a word writes; 0 where it is no number
unfoldable pub number_in : Base → List ℕ → ℕ
number_in base word = cond (is_number base word) (value_in (base_of base) 0 word) 0

-- a word is what a word of a form asks for
unfoldable pub word_fits : List ℕ → List ℕ → Bool
word_fits form word =
    cond (is_letter (get_or form 0 0)) (same word form)
    (cond (same form (bytes "ff")) (is_number Octal word)
    (cond (same form (bytes "id")) (ltb 0 (length word))
    (is_number Decimal word)))

-- "exactly the words": as many, and each as it is asked for
unfoldable pub fitting : List (List ℕ) → List (List ℕ) → Bool
fitting [] [] = true
fitting [] (word ∷ words) = false
fitting (form ∷ forms) [] = false
fitting (form ∷ forms) (word ∷ words) = word_fits form word && fitting forms words

-- the ID that a word writes, in six bytes, blanks after it. A word of over six bytes is no ID and becomes blanks alone,
-- which no request has
unfoldable pub id_of : List ℕ → List ℕ
id_of word = cond (ltb 6 (length word)) (padded 6 []) (padded 6 word)
