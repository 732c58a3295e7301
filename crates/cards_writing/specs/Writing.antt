-- A request's PTY and FAC cards as they are written, and the requests that the writer takes.
use Rattle.std.specs.Prelude.{ℕ, suc, ◌+◌, ◌-◌, ◌/◌, ◌%◌, Bool, true, false, cond, ◌&&◌, List, [], ◌∷◌, ◌++◌, eqb, ltb, length, get_or}
use Rattle.numbers.specs.Quoted.{byte, bytes}
use Rattle.numbers.specs.Limits.{last_sequence, last_precedence}
use Rattle.text.specs.Class.{is_letter}
use Rattle.text.specs.Writing.{two_text, decimal_text}
use Rattle.cards_fields.specs.Fields.{card_text, spaceless}
use Rattle.cards_request.specs.Errors.{good}
use Rattle.cards_pty.specs.Pty.{fields_error}
use Rattle.cards_fac.specs.Fac.{codes, slots, core_error, asks_of}
use Rattle.cards_request.specs.declared.Request.{Request}

-- "sequence two digits or absent, precedence always two digits"
unfoldable pub priority_text : Request → List ℕ
priority_text r = cond (eqb r.sequence 0) [] (two_text r.sequence) ++ (r.letter ∷ two_text r.precedence)

-- "no spaces": a mark that is a blank is an empty field
abbrev pub mark_text : ℕ → List ℕ
mark_text b = spaceless (b ∷ [])

-- the fields of the PTY card of a request of n cards: "the count is the number of cards, no leading zero"
unfoldable pub pty_fields : ℕ → Request → List (List ℕ)
pty_fields n r =
    spaceless r.id
    ∷ bytes "PTY"
    ∷ decimal_text n
    ∷ mark_text r.rush
    ∷ spaceless r.program
    ∷ mark_text r.immediate
    ∷ mark_text r.device
    ∷ spaceless r.medium
    ∷ mark_text r.mode
    ∷ priority_text r
    ∷ mark_text r.mix
    ∷ decimal_text r.minutes
    ∷ mark_text r.store
    ∷ spaceless r.library
    ∷ []

-- a field in front of others; an empty one in front of none is left off
abbrev pub front : List ℕ → List (List ℕ) → List (List ℕ)
front [] [] = []
front [] (g ∷ gs) = [] ∷ g ∷ gs
front (b ∷ f) gs = (b ∷ f) ∷ gs

-- "no trailing empty fields"
abbrev pub trimmed : List (List ℕ) → List (List ℕ)
trimmed [] = []
trimmed (f ∷ fs) = front f (trimmed fs)

-- the index of a slot's code
abbrev pub code_at : ℕ → ℕ
code_at k = cond (ltb k 3) k (3 + (k - 3) / 16)

-- the logical channel of a slot
abbrev pub channel_at : ℕ → ℕ
channel_at k = cond (ltb k 3) 0 ((k - 3) % 16)

-- an entry: its code, its logical channel, "0 unwritten", and its number
unfoldable pub entry_text : ℕ → ℕ → List ℕ
entry_text k n = get_or codes (code_at k) [] ++ (cond (eqb (channel_at k) 0) [] (decimal_text (channel_at k)) ++ (byte "/" ∷ decimal_text n))

-- "entries in order IB, DB, MD, MA, MT, PR" and MC, CR, PT, "then by logical channel": the order of the slots, from k on
abbrev pub entry_texts : ℕ → List ℕ → List (List ℕ)
entry_texts k [] = []
entry_texts k (n ∷ ns) = cond (eqb n 0) (entry_texts (suc k) ns) (entry_text k n ∷ entry_texts (suc k) ns)

-- the fields of the FAC card
abbrev pub fac_fields : Request → List (List ℕ)
fac_fields r = spaceless r.id ∷ bytes "FAC" ∷ entry_texts 0 (asks_of r.facilities)

-- the PTY card
unfoldable pub pty_text : ℕ → Request → List ℕ
pty_text n r = card_text (trimmed (pty_fields n r))

-- the FAC card
unfoldable pub fac_text : Request → List ℕ
fac_text r = card_text (fac_fields r)

-- in the one form: blanks only behind a name; `over`: a blank was passed
abbrev pub formed_from : Bool → List ℕ → Bool
formed_from over [] = true
formed_from true (b ∷ s) = eqb b (byte " ") && formed_from true s
formed_from false (b ∷ s) = formed_from (eqb b (byte " ")) s

-- and as many bytes as its array has
abbrev pub formed : ℕ → List ℕ → Bool
formed w s = eqb (length s) w && formed_from false s

-- the numbers that a card can hold: under 100, for MD under 1,000,000
abbrev pub limit : ℕ → ℕ
limit k = cond (eqb k 2) 1000000 100

-- every number of the slots from k on is one of those
abbrev pub numbers_fit : ℕ → List ℕ → Bool
numbers_fit k [] = eqb k slots
numbers_fit k (n ∷ ns) = ltb n (limit k) && numbers_fit (suc k) ns

-- the names are in the one form
abbrev pub names_formed : Request → Bool
names_formed r = formed 6 r.id && (formed 12 r.program && (formed 6 r.medium && formed 6 r.library))

-- the priority's parts and the minutes are ones that a card can hold
abbrev pub ranges_good : Request → Bool
ranges_good r = is_letter r.letter && (ltb r.sequence (last_sequence + 1) && (ltb r.precedence (last_precedence + 1) && ltb r.minutes 10000))

-- 13: "request to write against a field, entry, 14 or 27 rule above", of a request of n cards
unfoldable pub takes : ℕ → Request → Bool
takes n r =
    names_formed r
    && (ranges_good r
    && (good (fields_error (pty_fields n r)) && (numbers_fit 0 (asks_of r.facilities) && good (core_error (asks_of r.facilities)))))
