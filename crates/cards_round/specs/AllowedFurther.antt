-- WHICH FURTHER CARDS A REQUEST MAY HAVE: the rules of TAL, TRN and PM cards, of what the cards say and not of their
-- texts. A reader has to believe this page.
use Rattle.std.specs.Prelude.{ℕ, suc, ◌≤◌, max, ◌≡◌, Bool, true, false, cond, ◌&&◌, List, [], ◌∷◌, eqb, leb, length}
use Rattle.std.proofs.Math.Option.{Option, none, some}
use Rattle.numbers.specs.Limits.{most_further, text_length}
use Rattle.cards_tal.specs.Increments.{Increment, ProperIncrements, tal_of}
use Rattle.cards_trn.specs.Transfers.{Transfer, ProperTrn, trn_of}
use Rattle.cards_pm.specs.Sheets.{Sheet, Proper as ProperSheet, sheet_of}
use Rattle.cards_further.specs.Together.{apart}
use Rattle.cards_further.specs.Further.{held}
use Rattle.cards_request.specs.declared.Further.{Further}
use Rattle.cards_request.specs.declared.FullRequest.{FullRequest}
use Rattle.cards_round.specs.Allowed.{Allowed}

-- "its further cards .. each one of": TAL, a list of names and numbers; TRN, "a count 0-99 or none, and a list" of
-- transfers. Or PM, "a digit and a text"
pub data Card : Type 0 where
  tal : List Increment → Card
  trn : Option ℕ → List Transfer → Card
  pm : Sheet → Card

-- a card as it is written, from the type on
abbrev pub text_in : Card → List ℕ
text_in (tal increments) = tal_of increments
text_in (trn count transfers) = trn_of count transfers
text_in (pm sheet) = sheet_of sheet

-- each of them
abbrev pub texts_of : List Card → List (List ℕ)
texts_of [] = []
texts_of (c ∷ cs) = text_in c ∷ texts_of cs

-- a card keeps the rules of its kind
abbrev pub Proper : Card → Type 0
Proper (tal increments) = ProperIncrements increments
Proper (trn count transfers) = ProperTrn count transfers
Proper (pm sheet) = ProperSheet sheet

-- each of them, and its text from the type on has room beside an ID of one character
abbrev pub AllProper : List Card → Type 0
AllProper [] = Unit {0}
AllProper (c ∷ cs) = (Proper c × (length (text_in c) ≤ text_length)) × AllProper cs

-- the kinds
abbrev pub of_tal : Card → Bool
of_tal (tal increments) = true
of_tal (trn count transfers) = false
of_tal (pm sheet) = false

abbrev pub of_trn : Card → Bool
of_trn (tal increments) = false
of_trn (trn count transfers) = true
of_trn (pm sheet) = false

abbrev pub of_pm : Card → Bool
of_pm (tal increments) = false
of_pm (trn count transfers) = false
of_pm (pm sheet) = true

-- "digits strictly rising"; `least`: what the next may be at least
abbrev pub digits_rise : ℕ → List Card → Bool
digits_rise least [] = true
digits_rise least (tal increments ∷ cs) = digits_rise least cs
digits_rise least (trn count transfers ∷ cs) = digits_rise least cs
digits_rise least (pm sheet ∷ cs) = leb least sheet.digit && digits_rise (suc sheet.digit) cs

-- "at most one count": how many cards have one
abbrev pub counts : List Card → ℕ
counts [] = 0
counts (tal increments ∷ cs) = counts cs
counts (trn none transfers ∷ cs) = counts cs
counts (trn (some n) transfers ∷ cs) = suc (counts cs)
counts (pm sheet ∷ cs) = counts cs

-- cards that keep the rules: "at most 14", each by itself, "Kinds together, digits strictly rising, at most one count"
pub record Kept (cards : List Card) : Type 0 where
  pub few : length cards ≤ most_further
  pub each : AllProper cards
  pub tals : apart of_tal cards ≡ false
  pub trns : apart of_trn cards ≡ false
  pub pms : apart of_pm cards ≡ false
  pub digits : digits_rise 0 cards ≡ true
  pub count : counts cards ≤ 1

-- the text of the PM card with a digit, empty if there is none
abbrev pub sheet_at : ℕ → List Card → List ℕ
sheet_at d [] = []
sheet_at d (tal increments ∷ cs) = sheet_at d cs
sheet_at d (trn count transfers ∷ cs) = sheet_at d cs
sheet_at d (pm s ∷ cs) = cond (eqb s.digit d) s.letters (sheet_at d cs)

-- the highest digit of a PM card and one more, 0 without one
abbrev pub sheet_rows : List Card → ℕ
sheet_rows [] = 0
sheet_rows (tal increments ∷ cs) = sheet_rows cs
sheet_rows (trn count transfers ∷ cs) = sheet_rows cs
sheet_rows (pm s ∷ cs) = max (suc s.digit) (sheet_rows cs)

-- a value that holds such cards
pub record AllowedFurther (f : Further) : Type 0 where
  pub cards : List Card
  pub kept : Kept cards
  pub is : f ≡ held (texts_of cards)

-- a request with its further cards that breaks no rule
pub record AllowedFull (v : FullRequest) : Type 0 where
  pub request : Allowed v.request
  pub further : AllowedFurther v.further
