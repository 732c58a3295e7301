-- The PTY card: each field's length and content, the errors, and the priority.
use Rattle.std.specs.Prelude.{ℕ, suc, ◌+◌, Bool, true, cond, ◌&&◌, ◌||◌, not, List, [], ◌∷◌, eqb, ltb, leb, length, get_or, take, drop, Option, Some, None, Ok, Err, is_some}
use Rattle.std.specs.Option.{unwrap_or}
use Rattle.numbers.specs.Quoted.{byte, bytes}
use Rattle.numbers.specs.Limits.{last_sequence, last_precedence}
use Rattle.text.specs.Class.{is_digit, is_letter, is_alnum}
use Rattle.words.specs.Words.{passes, every, has, same, value}
use Rattle.words.specs.declared.Class.TheVariants.{Hyphened}
use Rattle.cards_fields.specs.Fields.{fields, is_pty, malformed}
use Rattle.cards_request.specs.Errors.{error_if, or_else, first_of}
use Rattle.cards_request.specs.declared.CardError.{CardError}
use Rattle.cards_request.specs.declared.CardError.TheVariants.{NotPty, PtyMalformed, IdLength, WrongRush, WrongLength, WrongContent}
use Rattle.cards_request.specs.Errors.{CardVerdict}
use Rattle.cards_pty.specs.declared.Priority.{Priority}

-- "letters, digits or hyphens, no hyphen first"
unfoldable pub program_name : List ℕ → Bool
program_name t = not (eqb (get_or t 0 0) (byte "-")) && every (passes Hyphened) t

-- each byte one of these letters
abbrev pub one_of : List ℕ → List ℕ → Bool
one_of letters t = every (has letters) t

-- "an optional two-digit sequence 01-63, a letter, an optional precedence 0-63 of 1-2 digits": how much stands before
-- the letter
abbrev pub lead : List ℕ → ℕ
lead t = cond (is_letter (get_or t 0 0)) 0 2

-- what is written of the sequence
abbrev pub sequence_text : List ℕ → List ℕ
sequence_text t = take (lead t) t

-- the letter
abbrev pub letter_of : List ℕ → ℕ
letter_of t = get_or t (lead t) 0

-- what is written of the precedence
abbrev pub precedence_text : List ℕ → List ℕ
precedence_text t = drop (lead t + 1) t

-- a sequence that is written is 01 to 63; "Left out, sequence is 0"
abbrev pub sequence_good : List ℕ → Bool
sequence_good t =
    every is_digit (sequence_text t)
    && (is_letter (get_or t 0 0) || (leb 1 (value (sequence_text t)) && leb (value (sequence_text t)) last_sequence))

-- "Left out, sequence is 0 and precedence 63"
abbrev pub precedence : List ℕ → ℕ
precedence p = cond (eqb (length p) 0) last_precedence (value p)

-- a precedence is 0-63, of at most two digits
abbrev pub precedence_good : List ℕ → Bool
precedence_good p = leb (length p) 2 && (every is_digit p && leb (precedence p) last_precedence)

-- "Z with precedence 63, written or implied, is wrong content"
abbrev pub last_of_all : ℕ → ℕ → Bool
last_of_all l p = eqb l (byte "Z") && eqb p last_precedence

-- the letter and the precedence behind a sequence, if they are right
unfoldable pub ranked : ℕ → ℕ → List ℕ → Option Priority
ranked q l p =
    cond (is_letter l && (precedence_good p && not (last_of_all l (precedence p))))
    (Some (record { sequence = q; letter = l; precedence = precedence p }))
    None

-- a priority: sequence, letter, precedence; none of wrong content
unfoldable pub priority_of : List ℕ → Option Priority
priority_of t = cond (sequence_good t) (ranked (value (sequence_text t)) (letter_of t) (precedence_text t)) None

-- a priority of right content
abbrev pub priority_good : List ℕ → Bool
priority_good t = is_some (priority_of t)

-- a priority of wrong content is all zeros
abbrev pub no_priority : Priority
no_priority = record { sequence = 0; letter = 0; precedence = 0 }

-- what a request holds of a text's priority
abbrev pub held_priority : List ℕ → Priority
held_priority t = unwrap_or (priority_of t) no_priority

-- what a field may be: its length and its content
pub record Rule : Type 0 where
  pub least : ℕ
  pub most : ℕ
  pub content : List ℕ → Bool

-- a row of the table
abbrev pub rule : ℕ → ℕ → (List ℕ → Bool) → Rule
rule least most content = record { least = least; most = most; content = content }

-- THE PTY CARD, field by field: least and most length, content
unfoldable pub rules : List Rule
rules =
    rule 1 6 (every is_alnum)  -- (1) ID, 1-6 letters or digits
    ∷ rule 3 3 (same (bytes "PTY"))  -- (2) PTY
    ∷ rule 1 2 (every is_digit)  -- (3) card count, 1-2 digits
    ∷ rule 0 1 (one_of (bytes "S"))  -- (4) RUSH, empty or S
    ∷ rule 1 12 program_name  -- (5) program name, 1-12 letters, digits or hyphens, no hyphen first
    ∷ rule 0 1 (one_of (bytes "I"))  -- (6) empty or I
    ∷ rule 0 1 (one_of (bytes "TAC"))  -- (7) empty, T, A or C
    ∷ rule 1 6 (every is_alnum)  -- (8) medium name, formed like the ID
    ∷ rule 1 1 (one_of (bytes "SP"))  -- (9) S or P
    ∷ rule 1 5 priority_good  -- (10) priority
    ∷ rule 1 1 (one_of (bytes "PC"))  -- (11) P or C
    ∷ rule 1 4 (every is_digit)  -- (12) estimated minutes, 1-4 digits
    ∷ rule 0 1 (one_of (bytes "TACZ"))  -- (13) empty, T, A, C or Z
    ∷ rule 0 6 (every is_alnum)  -- (14) empty or formed like the ID
    ∷ []

-- a field that the card does not have is empty
abbrev pub no_rule : Rule
no_rule = rule 0 0 (λ t. true)

-- the rule of the field at an index, the first at 0
abbrev pub rule_at : ℕ → Rule
rule_at k = get_or rules k no_rule

-- "1 for an ID of wrong length, 28 for a wrong RUSH, 18 for any other wrong length". At index 0 is the ID, at 3 RUSH
abbrev pub length_error : ℕ → CardError
length_error k = cond (eqb k 0) IdLength (cond (eqb k 3) WrongRush WrongLength)

-- "28 for a wrong RUSH, .. 17 for wrong content"
abbrev pub content_error : ℕ → CardError
content_error k = cond (eqb k 3) WrongRush WrongContent

-- the error of the field at an index: its length first, then its content
abbrev pub field_error : ℕ → Rule → List ℕ → CardVerdict
field_error k r t =
    cond (ltb (length t) r.least || ltb r.most (length t))
    (Err (length_error k))
    (cond (r.content t) (Ok tt) (Err (content_error k)))

-- "its fields left to right": the first error of those from index k on; a missing field is empty
abbrev pub fields_from : ℕ → List Rule → List (List ℕ) → CardVerdict
fields_from k [] fs = Ok tt
fields_from k (r ∷ rs) [] = or_else (field_error k r []) (fields_from (suc k) rs [])
fields_from k (r ∷ rs) (f ∷ fs) = or_else (field_error k r f) (fields_from (suc k) rs fs)

-- the first error of all fields
abbrev pub fields_error : List (List ℕ) → CardVerdict
fields_error fs = fields_from 0 rules fs

-- "25 the group's first card isn't PTY; 17 PTY card malformed or over 14 fields; then its fields left to right"
unfoldable pub pty_error : List ℕ → CardVerdict
pty_error pty =
    first_of
    (error_if (not (is_pty pty)) NotPty
    ∷ error_if (malformed pty || ltb 14 (length (fields pty))) PtyMalformed
    ∷ fields_error (fields pty)
    ∷ [])
