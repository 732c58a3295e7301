-- The TRN card, of the bulletin's section II: its receiving count, its transfers, its errors, and how it is written.
use Rattle.std.specs.Prelude.{ℕ, Bool, cond, ◌&&◌, ◌||◌, not, List, [], ◌∷◌, ◌++◌, leb, ltb, length, get_or, drop}
use Rattle.numbers.specs.Quoted.{byte, bytes}
use Rattle.text.specs.Writing.{decimal_text}
use Rattle.words.specs.Words.{has, same, number_in}
use Rattle.cards_fields.specs.Fields.{digits, field, fields, pieces, is_name, malformed, tail_text}
use Rattle.cards_request.specs.Errors.{error_if, or_else, first_of}
use Rattle.cards_request.specs.declared.CardError.TheVariants.{TrnWrong, TrnLong}
use Rattle.cards_request.specs.Errors.{CardVerdict}
use Rattle.std.specs.Prelude.{Ok}

-- the card is TRN
abbrev pub is_trn : List ℕ → Bool
is_trn card = same (field card 1) (bytes "TRN")

-- of the fields: "the third, if it has no slash, is the receiving count"
abbrev pub is_count : List ℕ → Bool
is_count t = not (has t (byte "/"))

-- a card that has one
unfoldable pub has_count : List ℕ → Bool
has_count card = ltb 2 (length (fields card)) && is_count (field card 2)

-- "over two characters: 8; empty, not all digits, or an earlier TRN card of the group has a count: 7"
unfoldable pub count_error : Bool → List ℕ → CardVerdict
count_error counted t =
    or_else (error_if (ltb 2 (length t)) TrnLong)
    (error_if (counted || not (digits t)) TrnWrong)

-- "Type: `D T N *T *N`"
abbrev pub is_type : List ℕ → Bool
is_type t = same t (bytes "D") || (same t (bytes "T") || (same t (bytes "N") || (same t (bytes "*T") || same t (bytes "*N"))))

-- the executive: "`*REQ` or `*PLB`"
abbrev pub is_executive : List ℕ → Bool
is_executive t = same t (bytes "*REQ") || same t (bytes "*PLB")

-- "Successor: as a name, or `*REQ` or `*PLB`"
abbrev pub is_successor : List ℕ → Bool
is_successor t = is_name t || is_executive t

-- "every other field is a transfer, cut at its slashes, parts name 1, type, successor, name 2"
abbrev pub parts_of : List ℕ → List (List ℕ)
parts_of t = pieces (byte "/") t

-- a part that is absent is empty
abbrev pub part : List ℕ → ℕ → List ℕ
part t k = get_or (parts_of t) k []

-- "over 6, 2, 6, 6 characters"
abbrev pub most_at : ℕ → ℕ
most_at k = get_or (6 ∷ 2 ∷ 6 ∷ 6 ∷ []) k 0

-- "Names: 1-6 letters or digits", in front and at the end
abbrev pub right_at : ℕ → List ℕ → Bool
right_at k t = get_or (is_name ∷ is_type ∷ is_successor ∷ is_name ∷ []) k is_name t

-- "Part by part: over 6, 2, 6, 6 characters: 8; absent, empty or wrong: 7"
unfoldable pub part_error : List ℕ → ℕ → CardVerdict
part_error t k = or_else (error_if (ltb (most_at k) (length (part t k))) TrnLong) (error_if (not (right_at k (part t k))) TrnWrong)

-- the four of them
unfoldable pub parts_error : List ℕ → CardVerdict
parts_error t = first_of (part_error t 0 ∷ part_error t 1 ∷ part_error t 2 ∷ part_error t 3 ∷ [])

-- and "After the fourth, a fifth part (even empty): 7"
unfoldable pub transfer_error : List ℕ → CardVerdict
transfer_error t = or_else (parts_error t) (error_if (ltb 4 (length (parts_of t))) TrnWrong)

-- the third field
abbrev pub third_error : Bool → List ℕ → CardVerdict
third_error counted t = cond (is_count t) (count_error counted t) (transfer_error t)

-- the fields behind it
abbrev pub transfers_error : List (List ℕ) → CardVerdict
transfers_error [] = Ok tt
transfers_error (t ∷ ts) = or_else (transfer_error t) (transfers_error ts)

-- "malformed: 7; no third field: 7; then the fields from the third on, left to right". `counted`: an earlier TRN card
-- of the group has a count
unfoldable pub trn_error : Bool → List ℕ → CardVerdict
trn_error counted card =
    first_of
    (error_if (malformed card) TrnWrong
    ∷ error_if (leb (length (fields card)) 2) TrnWrong
    ∷ third_error counted (field card 2)
    ∷ transfers_error (drop 3 (fields card))
    ∷ [])

-- a third field as it is written: a count "without leading zeros", a transfer as it was read
unfoldable pub third_text : List ℕ → List ℕ
third_text t = cond (is_count t) (decimal_text (number_in t)) t

-- the fields from the third on as they are written
abbrev pub field_texts : List (List ℕ) → List (List ℕ)
field_texts [] = []
field_texts (t ∷ ts) = third_text t ∷ ts

-- THE CARD AS IT IS WRITTEN, from the type on. "TRN then, if it has a count, `,` and the count .., then for each
-- transfer `,name1/type/successor/name2`, then `.`"
unfoldable pub trn_text : List ℕ → List ℕ
trn_text card = bytes "TRN" ++ tail_text (field_texts (drop 2 (fields card)))
