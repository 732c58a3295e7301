-- A request with its further cards as it is written, and the requests that the writer takes.
use Rattle.std.specs.Prelude.{ℕ, ◌+◌, Bool, true, false, cond, ◌&&◌, Result, Ok, Err, List, [], ◌∷◌, ◌++◌, eqb, leb, length, drop}
use Rattle.numbers.specs.Quoted.{byte}
use Rattle.numbers.specs.declared.Refusal.{Refusal}
use Rattle.numbers.specs.declared.Refusal.TheVariants.{NoRoom, WrongRequest}
use Rattle.numbers.specs.Limits.{card_length}
use Rattle.words.specs.Words.{same}
use Rattle.words.specs.Lines.{lines_text}
use Rattle.cards_fields.specs.Fields.{spaceless}
use Rattle.cards_fields.specs.Deck.{cards_of}
use Rattle.cards_request.specs.Errors.{good, first_of}
use Rattle.cards_request.specs.Requests.{texts}
use Rattle.cards_further.specs.Further.{types_error, together_error, contents_error, canonicals, held}
use Rattle.cards_writing.specs.Writing.{pty_text, fac_text, takes}
use Rattle.cards_request.specs.declared.FurtherCard.{FurtherCard}
use Rattle.cards_request.specs.declared.Further.{Further}
use Rattle.cards_request.specs.declared.FullRequest.{FullRequest}
use Rattle.cards_request.specs.Errors.{CardVerdict}

-- how many cards a request has: PTY, FAC and the further ones
abbrev pub card_count : FullRequest → ℕ
card_count v = 2 + v.further.count

-- texts from the type on, each behind an ID and a comma
abbrev pub behind_id : List ℕ → List (List ℕ) → List (List ℕ)
behind_id id [] = []
behind_id id (t ∷ ts) = (id ++ (byte "," ∷ t)) ∷ behind_id id ts

-- THE CARDS OF A REQUEST, in order: "PTY, FAC, then further card i as card i was read"
unfoldable pub cards_in : FullRequest → List (List ℕ)
cards_in v = pty_text (card_count v) v.request ∷ fac_text v.request ∷ behind_id (spaceless v.request.id) (texts v.further)

-- THE TEXT OF A REQUEST: its cards, each with its LF
abbrev pub text_of : FullRequest → List ℕ
text_of v = lines_text (cards_in v)

-- the errors that further cards have by themselves, whatever their ID
unfoldable pub further_error : List (List ℕ) → CardVerdict
further_error cs = first_of (types_error cs ∷ together_error cs ∷ contents_error false cs ∷ [])

-- the further cards as they stand behind an ID that is left out
abbrev pub bare : Further → List (List ℕ)
bare f = cards_of (lines_text (behind_id [] (texts f)))

-- the cards of two values are held alike, one by one
abbrev pub same_cards : List FurtherCard → List FurtherCard → Bool
same_cards [] [] = true
same_cards [] (d ∷ ds) = false
same_cards (c ∷ cs) [] = false
same_cards (c ∷ cs) (d ∷ ds) = eqb c.len d.len && (same c.text d.text && same_cards cs ds)

-- 13 for a value that no reading gives: its further cards have an error, or read give another value
unfoldable pub takes_further : Further → Bool
takes_further f =
    let again = held (canonicals (bare f)) in
    good (further_error (bare f)) && (eqb again.count f.count && same_cards again.cards f.cards)

-- 13: "request to write against a field, entry, 14 or 27 rule above", or against a rule of its further cards
unfoldable pub takes_full : FullRequest → Bool
takes_full v = takes_further v.further && takes (card_count v) v.request

-- each card has at most 80 characters
abbrev pub short : List (List ℕ) → Bool
short [] = true
short (c ∷ cs) = leb (length c) card_length && short cs

-- 12: "card to write over 80 characters, or lent room too short"; the need is that of all cards, each with its LF
unfoldable pub fits : FullRequest → ℕ → Bool
fits v room = short (cards_in v) && leb (length (text_of v)) room

-- WHAT WRITING ANSWERS: 13 before 12, else how many bytes the cards take
unfoldable pub write_answer : FullRequest → ℕ → Result ℕ Refusal
write_answer v room = cond (takes_full v) (cond (fits v room) (Ok (length (text_of v))) (Err NoRoom)) (Err WrongRequest)

-- and what the lent room then holds: the cards, and behind them what was there; all of what was there on refusal
unfoldable pub written : FullRequest → List ℕ → List ℕ
written v room = cond (takes_full v && fits v (length room)) (text_of v ++ drop (length (text_of v)) room) room
