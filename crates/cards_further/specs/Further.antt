-- The further cards of a group, those from the third on: their kinds, their errors, and what is held of them.
use Rattle.std.specs.Prelude.{ℕ, zero, suc, min, Bool, cond, ◌&&◌, ◌||◌, not, List, [], ◌∷◌, length}
use Rattle.numbers.specs.Elements.{any}
use Rattle.numbers.specs.Limits.{most_further, text_length}
use Rattle.cards_fields.specs.Fields.{field_is, padded}
use Rattle.cards_fac.specs.Fac.{is_fac}
use Rattle.cards_tal.specs.Tal.{is_tal, tal_error, tal_text}
use Rattle.cards_trn.specs.Trn.{is_trn, has_count, trn_error, trn_text}
use Rattle.cards_pm.specs.Pm.{is_pm, numbered, pm_fault, pm_text, rising}
use Rattle.cards_request.specs.Errors.{error_if, or_else, first_of}
use Rattle.cards_request.specs.Requests.{no_card}
use Rattle.cards_request.specs.declared.CardError.TheVariants.{LaterFac, UnknownCard, PmNumber, PmWrong, TalApart, TrnApart}
use Rattle.cards_request.specs.Errors.{CardVerdict}
use Rattle.std.specs.Prelude.{Ok}
use Rattle.cards_request.specs.declared.FurtherCard.{FurtherCard}
use Rattle.cards_request.specs.declared.Further.{Further}
use Rattle.cards_further.specs.Together.{apart}

-- "FAC; TAL; TRN; PM, when the type begins with `PM`; unknown otherwise"
abbrev pub unknown : List ℕ → Bool
unknown c = not (is_fac c || (is_tal c || (is_trn c || is_pm c)))

-- a card has another ID than this one
abbrev pub other_than : List ℕ → List ℕ → Bool
other_than id c = not (field_is c 0 id)

-- "a PM card without a one-digit number"
abbrev pub unnumbered : List ℕ → Bool
unnumbered c = is_pm c && not (numbered c)

-- a PM card that is malformed or has a text over 66
abbrev pub faulty : List ℕ → Bool
faulty c = is_pm c && pm_fault c

-- the types' errors as the code looks for them, in the order of the group's (`Group: ordered_error`). "22 is any later
-- FAC"; "Error 3 remains for unknown types only"
unfoldable pub types_error : List (List ℕ) → CardVerdict
types_error cs = or_else (error_if (any is_fac cs) LaterFac) (error_if (any unknown cs) UnknownCard)

-- "4 is PM cards apart, malformed, digits not rising or text over 66"
unfoldable pub pm_wrong : List (List ℕ) → Bool
pm_wrong cs = apart is_pm cs || (any faulty cs || not (rising 0 cs))

-- and those behind 25, "30, 4, 23 and 24 in that order"
unfoldable pub together_error : List (List ℕ) → CardVerdict
together_error cs =
    first_of
    (error_if (any unnumbered cs) PmNumber
    ∷ error_if (pm_wrong cs) PmWrong
    ∷ error_if (apart is_tal cs) TalApart
    ∷ error_if (apart is_trn cs) TrnApart
    ∷ [])

-- the content errors of a card: TAL's, or TRN's; of a PM card "nothing is left to find"
abbrev pub content_error : Bool → List ℕ → CardVerdict
content_error counted c = cond (is_tal c) (tal_error c) (cond (is_trn c) (trn_error counted c) (Ok tt))

-- "which are looked for card by card": the first; `counted`: an earlier TRN card has a count
abbrev pub contents_error : Bool → List (List ℕ) → CardVerdict
contents_error counted [] = Ok tt
contents_error counted (c ∷ cs) = or_else (content_error counted c) (contents_error (counted || (is_trn c && has_count c)) cs)

-- A CARD IN CANONICAL FORM, from the type on
abbrev pub canonical : List ℕ → List ℕ
canonical c = cond (is_tal c) (tal_text c) (cond (is_trn c) (trn_text c) (pm_text c))

-- each of them
abbrev pub canonicals : List (List ℕ) → List (List ℕ)
canonicals [] = []
canonicals (c ∷ cs) = canonical c ∷ canonicals cs

-- a text as it is held: blanks behind it, and its length
abbrev pub held_card : List ℕ → FurtherCard
held_card t = record { text = padded text_length t; len = min (length t) text_length }

-- in so many places, blank cards behind the last
abbrev pub held_in : ℕ → List (List ℕ) → List FurtherCard
held_in zero ts = []
held_in (suc n) [] = no_card ∷ held_in n []
held_in (suc n) (t ∷ ts) = held_card t ∷ held_in n ts

-- "its further cards in the order read, at most 14", blank cards behind them, and how many they are
unfoldable pub held : List (List ℕ) → Further
held ts = record { cards = held_in most_further ts; count = min (length ts) most_further }
