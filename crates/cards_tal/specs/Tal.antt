-- The TAL card, of the bulletin's section II: its increments, its errors, and how it is written.
use Rattle.std.specs.Prelude.{ℕ, ◌+◌, Bool, ◌&&◌, not, List, [], ◌∷◌, ◌++◌, leb, ltb, length, drop}
use Rattle.numbers.specs.Quoted.{byte, bytes}
use Rattle.text.specs.Writing.{decimal_text}
use Rattle.words.specs.Words.{same, isnt, leading, number_in}
use Rattle.cards_fields.specs.Fields.{digits, field, fields, is_name, malformed, tail_text}
use Rattle.cards_request.specs.Errors.{error_if, or_else, first_of}
use Rattle.cards_request.specs.declared.CardError.TheVariants.{TalWrong, TalLong}
use Rattle.cards_request.specs.Errors.{CardVerdict}
use Rattle.std.specs.Prelude.{Ok}

-- the card is TAL
abbrev pub is_tal : List ℕ → Bool
is_tal card = same (field card 1) (bytes "TAL")

-- an entry `name/number` is cut at its first slash: what stands before it
abbrev pub name_of : List ℕ → List ℕ
name_of t = leading (isnt (byte "/")) t

-- and behind it
abbrev pub number_of : List ℕ → List ℕ
number_of t = drop (length (name_of t) + 1) t

-- there is a slash
abbrev pub slashed : List ℕ → Bool
slashed t = ltb (length (name_of t)) (length t)

-- "TAL numbers 1-5 digits": "number over five characters: 6; number empty or not all digits: 5"
unfoldable pub number_error : List ℕ → CardVerdict
number_error t = or_else (error_if (ltb 5 (length t)) TalLong) (error_if (not (digits t)) TalWrong)

-- "no slash, or the name isn't 1-6 letters or digits: 5", then its number
unfoldable pub entry_error : List ℕ → CardVerdict
entry_error t = or_else (error_if (not (slashed t && is_name (name_of t))) TalWrong) (number_error (number_of t))

-- "then each entry from left to right": the first error
abbrev pub entries_error : List (List ℕ) → CardVerdict
entries_error [] = Ok tt
entries_error (t ∷ ts) = or_else (entry_error t) (entries_error ts)

-- "fields from the third on are entries"
abbrev pub entries_of : List ℕ → List (List ℕ)
entries_of card = drop 2 (fields card)

-- "malformed: 5; no third field: 5; then each entry"
unfoldable pub tal_error : List ℕ → CardVerdict
tal_error card =
    first_of
    (error_if (malformed card) TalWrong
    ∷ error_if (leb (length (fields card)) 2) TalWrong
    ∷ entries_error (entries_of card)
    ∷ [])

-- an entry as it is written: "name/number", "number decimal without leading zeros, 0 is `0`"
unfoldable pub entry_text : List ℕ → List ℕ
entry_text t = name_of t ++ (byte "/" ∷ decimal_text (number_in (number_of t)))

-- each of them
abbrev pub entry_texts : List (List ℕ) → List (List ℕ)
entry_texts [] = []
entry_texts (t ∷ ts) = entry_text t ∷ entry_texts ts

-- THE CARD AS IT IS WRITTEN, from the type on: "TAL then for each entry `,name/number`, then `.`"
unfoldable pub tal_text : List ℕ → List ℕ
tal_text card = bytes "TAL" ++ tail_text (entry_texts (entries_of card))
