-- A group of cards: the request, or the first error in the order of documents 01 and 02.
use Rattle.std.specs.Prelude.{ℕ, Bool, false, ◌||◌, not, List, [], ◌∷◌, eqb, ltb, length, get_or, drop}
use Rattle.numbers.specs.Quoted.{byte}
use Rattle.numbers.specs.Elements.{any}
use Rattle.numbers.specs.Limits.{most_cards}
use Rattle.words.specs.Words.{same, value}
use Rattle.cards_fields.specs.Fields.{field, padded}
use Rattle.cards_request.specs.Errors.{error_if, first_of}
use Rattle.cards_request.specs.Requests.{no_request, no_full_request}
use Rattle.cards_pty.specs.Pty.{held_priority, pty_error}
use Rattle.cards_fac.specs.Fac.{facilities_of, is_fac, asked, fac_error}
use Rattle.cards_tal.specs.Tal.{is_tal}
use Rattle.cards_trn.specs.Trn.{is_trn}
use Rattle.cards_further.specs.Together.{apart}
use Rattle.cards_further.specs.Further.{unknown, unnumbered, pm_wrong, contents_error, canonicals, held}
use Rattle.cards_request.specs.declared.CardError.TheVariants.{
  WrongCount,
  NoFac,
  LaterFac,
  UnknownCard,
  OtherId,
  PmNumber,
  PmWrong,
  TalApart,
  TrnApart,
}
use Rattle.cards_request.specs.Errors.{CardVerdict}
use Rattle.std.specs.Prelude.{Ok, Err}
use Rattle.cards_request.specs.declared.Request.{Request}
use Rattle.cards_request.specs.declared.Further.{Further}
use Rattle.cards_group.specs.declared.Reading.{Reading}
use Rattle.cards_group.specs.declared.FullReading.{FullReading}

-- "20 count differs from the cards in the group"; "up to 16 cards; a larger group gets error 20"
abbrev pub wrong_count : ℕ → List ℕ → Bool
wrong_count n pty = ltb most_cards n || not (eqb (value (field pty 2)) n)

-- "25 any differing ID"
abbrev pub other_id : List ℕ → List ℕ → Bool
other_id pty c = not (same (field c 0) (field pty 0))

-- THE ORDER OF ERRORS, "the first answering", of a group of n cards: PTY, FAC and the further cards, those from the
-- third on. A card that is absent is empty, and so neither PTY nor FAC
unfoldable pub ordered_error : ℕ → List ℕ → List ℕ → List (List ℕ) → CardVerdict
ordered_error n pty fac further =
    first_of
    -- 25, 17 and its fields'. "25 the group's first card isn't PTY; 17 PTY card malformed or over 14 fields". "then its
    -- fields left to right: 1 for an ID of wrong length, 28 for a wrong RUSH, 18 .., 17 .."
    (pty_error pty
    -- 20: "count differs from the cards in the group"; "a larger group gets error 20"
    ∷ error_if (wrong_count n pty) WrongCount
    -- 28: "second card absent or not FAC"
    ∷ error_if (not (is_fac fac)) NoFac
    -- 22: "any later FAC"
    ∷ error_if (any is_fac further) LaterFac
    -- 3: "remains for unknown types only"
    ∷ error_if (any unknown further) UnknownCard
    -- 25: "any differing ID"
    ∷ error_if (any (other_id pty) (fac ∷ further)) OtherId
    -- "30, 4, 23 and 24 in that order": 30, a PM card without a one-digit number
    ∷ error_if (any unnumbered further) PmNumber
    -- 4: "PM cards apart, malformed, digits not rising or text over 66"
    ∷ error_if (pm_wrong further) PmWrong
    -- 23: TAL cards apart
    ∷ error_if (apart is_tal further) TalApart
    -- 24: TRN cards apart
    ∷ error_if (apart is_trn further) TrnApart
    -- "the content errors, which are looked for card by card and from left to right in each". "12 FAC malformed; its
    -- entries left to right: 9 .., 11 .., 13 ..; 14 IB plus DB over 28; 27 no IB"
    ∷ fac_error fac
    -- then TAL's, 5 and 6, and TRN's, 7 and 8
    ∷ contents_error false further
    ∷ [])

-- a field of at most one byte: the byte, or a blank
abbrev pub mark : List ℕ → ℕ
mark t = get_or t 0 (byte " ")

-- the request that a good PTY card and what is asked for make
abbrev pub request_of : List ℕ → List ℕ → Request
request_of pty asks = record {
  id = padded 6 (field pty 0);
  rush = mark (field pty 3);
  program = padded 12 (field pty 4);
  immediate = mark (field pty 5);
  device = mark (field pty 6);
  medium = padded 6 (field pty 7);
  mode = mark (field pty 8);
  sequence = (held_priority (field pty 9)).sequence;
  letter = (held_priority (field pty 9)).letter;
  precedence = (held_priority (field pty 9)).precedence;
  mix = mark (field pty 10);
  minutes = value (field pty 11);
  store = mark (field pty 12);
  library = padded 6 (field pty 13);
  facilities = facilities_of asks;
}

-- an error alone, or the request
abbrev pub answer : CardVerdict → Request → Reading
answer (Ok tt) r = record { verdict = Ok tt; request = r }
answer (Err e) r = record { verdict = Err e; request = no_request }

-- an error alone, or the request with its further cards
abbrev pub full_answer : CardVerdict → Request → Further → FullReading
full_answer (Ok tt) r f = record { verdict = Ok tt; full = record { request = r; further = f } }
full_answer (Err e) r f = record { verdict = Err e; full = no_full_request }

-- what n cards read as
unfoldable pub read_cards : ℕ → List ℕ → List ℕ → List (List ℕ) → Reading
read_cards n pty fac further = answer (ordered_error n pty fac further) (request_of pty (asked fac))

-- WHAT READING A GROUP OF CARDS ANSWERS: what a schedule holds of it
abbrev pub read_group : List (List ℕ) → Reading
read_group cards = read_cards (length cards) (get_or cards 0 []) (get_or cards 1 []) (drop 2 cards)

-- the further cards of a group, as they are held
abbrev pub further_of : List (List ℕ) → Further
further_of cards = held (canonicals (drop 2 cards))

-- AND WITH ITS FURTHER CARDS
unfoldable pub read_full : List (List ℕ) → FullReading
read_full cards = full_answer (read_group cards).verdict (read_group cards).request (further_of cards)
