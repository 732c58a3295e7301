-- The PM cards, of the bulletin's section II: the number, the text, what is wrong with a card, and how it is written.
use Rattle.std.specs.Prelude.{ℕ, suc, ◌+◌, Bool, true, cond, ◌&&◌, ◌||◌, not, List, [], ◌∷◌, ◌++◌, eqb, leb, ltb, length, get_or, take, drop}
use Rattle.numbers.specs.Quoted.{byte, bytes}
use Rattle.numbers.specs.Limits.{card_length, pm_length}
use Rattle.text.specs.Class.{is_digit}
use Rattle.words.specs.Words.{every, has, same, isnt, leading}
use Rattle.cards_fields.specs.Fields.{field, card_byte}

-- "PM, when the type begins with `PM`"
unfoldable pub is_pm : List ℕ → Bool
is_pm card = same (take 2 (field card 1)) (bytes "PM")

-- "PM's number is right when the type is `PM` and exactly one of 0-9". Of a card whose type begins with PM, that it is
-- one digit
abbrev pub numbered : List ℕ → Bool
numbered card = eqb (length (field card 1)) 3 && is_digit (get_or (field card 1) 2 0)

-- its digit, as it stands behind PM
unfoldable pub digit_of : List ℕ → ℕ
digit_of card = get_or (field card 1) 2 (byte " ")

-- what stands before a text's last period; all of a text that has none
abbrev pub body : List ℕ → List ℕ
body [] = []
body (b ∷ s) = cond (has s (byte ".")) (b ∷ body s) (cond (eqb b (byte ".")) [] (b ∷ s))

-- what stands behind a text's first comma
abbrev pub behind_comma : List ℕ → List ℕ
behind_comma s = drop (length (leading (isnt (byte ",")) s) + 1) s

-- "the characters after the card's second comma and before its last period, as they stand: blanks, commas, periods"
unfoldable pub letters : List ℕ → List ℕ
letters card = behind_comma (behind_comma (body card))

-- "over 80 characters, a character outside `A-Z 0-9 space - / * = : , .`, no period, or something but spaces after the
-- period", which is the card's last. "A PM card without a second comma is malformed too"
unfoldable pub pm_malformed : List ℕ → Bool
pm_malformed card =
    ltb card_length (length card)
    || not
    (every card_byte card
    && (has card (byte ".")
    && (every (has (bytes " ")) (drop (length (body card) + 1) card) && has (behind_comma (body card)) (byte ","))))

-- "malformed .. or text over 66"
unfoldable pub pm_fault : List ℕ → Bool
pm_fault card = pm_malformed card || ltb pm_length (length (letters card))

-- "digits .. rising", strictly, over the PM cards of a list; `least`: what the next may be at least
abbrev pub rising : ℕ → List (List ℕ) → Bool
rising least [] = true
rising least (c ∷ cs) = cond (is_pm c) (leb least (digit_of c) && rising (suc (digit_of c)) cs) (rising least cs)

-- THE CARD AS IT IS WRITTEN, from the type on: "PM digit `,` text `.`; the text as it stands"
unfoldable pub pm_text : List ℕ → List ℕ
pm_text card = bytes "PM" ++ (digit_of card ∷ byte "," ∷ (letters card ++ bytes "."))
