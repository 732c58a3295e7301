-- The FAC card: its entries, what they ask for, and the errors.
use Rattle.std.specs.Prelude.{ℕ, suc, ◌+◌, ◌-◌, ◌*◌, ◌<◌, ◌≡◌, Bool, cond, ◌&&◌, not, List, [], ◌∷◌, map, eqb, ltb, leb, length, get_or, drop, set, Result, Ok, IfOk}
use Rattle.std.specs.Result.{result_and}
use Rattle.numbers.specs.Quoted.{byte, bytes}
use Rattle.numbers.specs.Kinds.{code_of as kind_code, in_order, unit_kinds}
use Rattle.numbers.specs.declared.Kind.TheVariants.{Md}
use Rattle.numbers.specs.Limits.{most_blocks}
use Rattle.text.specs.Class.{is_digit, is_letter}
use Rattle.words.specs.Words.{every, same, value, leading, isnt}
use Rattle.cards_fields.specs.Fields.{field, fields, malformed}
use Rattle.cards_request.specs.Errors.{error_if, or_else, first_of}
use Rattle.cards_request.specs.Requests.{counts, no_facilities}
use Rattle.cards_request.specs.declared.CardError.{CardError}
use Rattle.cards_request.specs.declared.CardError.TheVariants.{FacMalformed, LongCode, UnknownCode, WrongEntry, TooMuchCore, NoIb}
use Rattle.cards_request.specs.Errors.{CardVerdict}
use Rattle.cards_fac.specs.declared.Entry.{Entry}
use Rattle.cards_request.specs.declared.Facilities.{Facilities}

-- the codes in the order in which entries are written: IB, DB, MD, and the kinds that have units, in their order
unfoldable pub codes : List (List ℕ)
codes = bytes "IB" ∷ bytes "DB" ∷ map kind_code (Md ∷ in_order)

-- the index of the last code
abbrev pub last_code : ℕ
last_code = 2 + unit_kinds

-- the index of a code; past the last for one that is unknown
abbrev pub index_in : List (List ℕ) → List ℕ → ℕ
index_in [] c = 0
index_in (k ∷ ks) c = cond (same k c) 0 (suc (index_in ks c))

-- "a code (the leading letters)"
abbrev pub code_text : List ℕ → List ℕ
code_text t = leading is_letter t

-- the index of an entry's code
abbrev pub code_of : List ℕ → ℕ
code_of t = index_in codes (code_text t)

-- what stands between the code and the slash
abbrev pub channel_text : List ℕ → List ℕ
channel_text t = leading (isnt (byte "/")) (drop (length (code_text t)) t)

-- where the slash stands
abbrev pub slash_at : List ℕ → ℕ
slash_at t = length (code_text t) + length (channel_text t)

-- what stands behind the slash
abbrev pub number_text : List ℕ → List ℕ
number_text t = drop (slash_at t + 1) t

-- "an optional logical channel 0-15 (1-2 digits, none is 0)"; IB, DB and MD, the first three codes, take none
abbrev pub channel_good : ℕ → List ℕ → Bool
channel_good code t = cond (ltb code 3) (eqb (length t) 0) (leb (length t) 2 && (every is_digit t && leb (value t) 15))

-- "(1-2 digits), MD/n (1-6)"
abbrev pub most : ℕ → ℕ
most code = cond (eqb code 2) 6 2

-- "n is at least 1"
abbrev pub number_good : ℕ → List ℕ → Bool
number_good code t = leb (length t) (most code) && (every is_digit t && leb 1 (value t))

-- an entry of a code that is known: a slash, with a good channel before it and a good number behind it
abbrev pub entry_good : ℕ → List ℕ → Bool
entry_good code t = ltb (slash_at t) (length t) && (channel_good code (channel_text t) && number_good code (number_text t))

-- WHAT IS ASKED FOR, as one list of numbers: IB, DB and MD at 0, 1, 2. Then for each kind of unit its logical channels
abbrev pub asks_of : Facilities → List ℕ
asks_of f = f.ib ∷ f.db ∷ f.md ∷ f.units

-- and as the code holds it
abbrev pub facilities_of : List ℕ → Facilities
facilities_of asks = record { ib = get_or asks 0 0; db = get_or asks 1 0; md = get_or asks 2 0; units = drop 3 asks }

-- nothing is asked for
abbrev pub nothing : List ℕ
nothing = asks_of no_facilities

-- how many numbers: three, and the counts of units
abbrev pub slots : ℕ
slots = 3 + counts

-- the slot of a code and a logical channel, its index in the list; each kind of unit has sixteen
abbrev pub slot : ℕ → ℕ → ℕ
slot code channel = cond (ltb code 3) code (3 + (code - 3) * 16 + channel)

-- where an entry's number goes
abbrev pub slot_of : List ℕ → ℕ
slot_of t = slot (code_of t) (value (channel_text t))

-- "9 a code (the leading letters) of over two letters, 11 an unknown or empty code"
unfoldable pub code_error : List ℕ → CardVerdict
code_error t = or_else (error_if (ltb 2 (length (code_text t))) LongCode) (error_if (ltb last_code (code_of t)) UnknownCode)

-- "13 anything else"
unfoldable pub form_error : List ℕ → CardVerdict
form_error t = or_else (code_error t) (error_if (not (entry_good (code_of t) t)) WrongEntry)

-- "No two entries have the same code and logical channel"
abbrev pub entry_error : List ℕ → List ℕ → CardVerdict
entry_error asks t = or_else (form_error t) (error_if (ltb 0 (get_or asks (slot_of t) 0)) WrongEntry)

-- what is asked for with one entry more
abbrev pub entered : List ℕ → List ℕ → List ℕ
entered asks t = set asks (slot_of t) (value (number_text t))

-- "its entries left to right": the first error
abbrev pub entries_error : List ℕ → List (List ℕ) → CardVerdict
entries_error asks [] = Ok tt
entries_error asks (t ∷ ts) = or_else (entry_error asks t) (entries_error (entered asks t) ts)

-- what all entries ask for
abbrev pub all_entered : List ℕ → List (List ℕ) → List ℕ
all_entered asks [] = asks
all_entered asks (t ∷ ts) = all_entered (entered asks t) ts

-- "14 IB plus DB over 28; 27 no IB"
abbrev pub core_error : List ℕ → CardVerdict
core_error asks = or_else (error_if (ltb most_blocks (get_or asks 0 0 + get_or asks 1 0)) TooMuchCore) (error_if (eqb (get_or asks 0 0) 0) NoIb)

-- a code as the code reads it: its error, or its index
abbrev pub code_answer : List ℕ → Result ℕ CardError
code_answer t = result_and (code_error t) (Ok (code_of t))

-- an entry as the code reads it: its error, or its slot and its number
abbrev pub entry_answer : CardVerdict → ℕ → ℕ → Result Entry CardError
entry_answer v k n = result_and v (Ok (record { slot = k; number = n }))

-- the entry that a text writes
unfoldable pub entry_of : List ℕ → Result Entry CardError
entry_of t = entry_answer (form_error t) (slot_of t) (value (number_text t))

-- what a caller learns of an entry
pub record EntryRead (t : List ℕ) (r : Result Entry CardError) : Type 0 where
  pub is : r ≡ entry_of t
  pub low : IfOk r (λ e. e.slot < slots)
  pub small : IfOk r (λ e. (e.slot ≡ 2 → ⊥) → e.number < 100)

-- all entries as the code reads them: the error, or what they ask for
abbrev pub asked_answer : CardVerdict → List ℕ → Result Facilities CardError
asked_answer v asks = result_and v (Ok (facilities_of asks))

-- what the entries of a card read as
unfoldable pub asked_of : List ℕ → List (List ℕ) → Result Facilities CardError
asked_of asks ts = asked_answer (entries_error asks ts) (all_entered asks ts)

-- the card is FAC
abbrev pub is_fac : List ℕ → Bool
is_fac card = same (field card 1) (bytes "FAC")

-- the entries of a FAC card
abbrev pub entries_of : List ℕ → List (List ℕ)
entries_of fac = drop 2 (fields fac)

-- what they ask for
abbrev pub asked : List ℕ → List ℕ
asked fac = all_entered nothing (entries_of fac)

-- "12 FAC malformed; its entries left to right: ..; 14 IB plus DB over 28; 27 no IB"
unfoldable pub fac_error : List ℕ → CardVerdict
fac_error fac =
    first_of
    (error_if (malformed fac) FacMalformed
    ∷ entries_error nothing (entries_of fac)
    ∷ core_error (asked fac)
    ∷ [])

-- a FAC card as the code reads it: its error, or what it asks for
unfoldable pub fac_of : List ℕ → Result Facilities CardError
fac_of fac = asked_answer (fac_error fac) (asked fac)
