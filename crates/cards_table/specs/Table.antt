-- The parameter table, by place: what further cards hold of PM text.
use Rattle.std.specs.Prelude.{ℕ, ◌+◌, ◌-◌, ◌*◌, ◌/◌, ◌%◌, ◌<◌, ◌≤◌, max, ◌≡◌, Bool, cond, ◌&&◌, List, [], ◌∷◌, eqb, length, get_or, take, drop}
use Rattle.numbers.specs.Quoted.{byte, bytes}
use Rattle.numbers.specs.Limits.{pm_length}
use Rattle.text.specs.Class.{is_digit}
use Rattle.words.specs.Words.{same}
use Rattle.cards_request.specs.Requests.{texts}
use Rattle.cards_request.specs.declared.Further.{Further}

-- a card's text from the type on is `PM` and a digit, and so on
abbrev pub is_pm_text : List ℕ → Bool
is_pm_text t = same (take 2 t) (bytes "PM") && is_digit (get_or t 2 0)

-- its digit
abbrev pub digit_in : List ℕ → ℕ
digit_in t = get_or t 2 0 - byte "0"

-- "the characters after the card's second comma and before its last period": those behind `PMn,` but for the last
abbrev pub letters_in : List ℕ → List ℕ
letters_in t = take (length t - 5) (drop 4 t)

-- "With highest digit N" N+1; 0 without a PM card
abbrev pub rows : List (List ℕ) → ℕ
rows [] = 0
rows (t ∷ ts) = max (cond (is_pm_text t) (digit_in t + 1) 0) (rows ts)

-- the text of the card with a digit, empty if there is no such card
abbrev pub card_at : ℕ → List (List ℕ) → List ℕ
card_at d [] = []
card_at d (t ∷ ts) = cond (is_pm_text t && eqb (digit_in t) d) (letters_in t) (card_at d ts)

-- "the parameter table has 66 times (N+1) characters"
unfoldable pub table_size : Further → ℕ
table_size f = pm_length * rows (texts f)

-- BY PLACE: character i is character i mod 66 of card i div 66, or a blank: "blanks filling a short or omitted card's
-- 66"
unfoldable pub place : Further → ℕ → ℕ
place f i = get_or (card_at (i / pm_length) (texts f)) (i % pm_length) (byte " ")

-- the table stands at the start of the room, and every byte behind it is kept
pub record Table (f : Further) (room after· : List ℕ) (r : ℕ) : Type 0 where
  pub size : r ≡ table_size f
  pub places : (i : ℕ) → i < r → get_or after· i 0 ≡ place f i
  pub kept : (i : ℕ) → r ≤ i → get_or after· i 0 ≡ get_or room i 0
  pub long : length after· ≡ length room
