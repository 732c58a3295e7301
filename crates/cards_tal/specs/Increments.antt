-- What a TAL card means: its increments in the order read; and how they are written, from the type on.
use Rattle.std.specs.Prelude.{ℕ, ◌≤◌, ◌≡◌, true, List, [], ◌∷◌, ◌++◌, length}
use Rattle.numbers.specs.Quoted.{byte, bytes}
use Rattle.text.specs.Writing.{decimal_text}
use Rattle.cards_fields.specs.Fields.{is_name, tail_text}

-- "(name, number 0-99,999)"
pub record Increment : Type 0 where
  pub name : List ℕ
  pub number : ℕ

-- "the name .. 1-6 letters or digits", "number 0-99,999"
abbrev pub ProperIncrement : Increment → Type 0
ProperIncrement i = (is_name i.name ≡ true) × (i.number ≤ 99999)

-- each of them is so
abbrev pub EachIncrement : List Increment → Type 0
EachIncrement [] = Unit {0}
EachIncrement (i ∷ is) = ProperIncrement i × EachIncrement is

-- "a list of at least one (name, number 0-99,999), in the order read"
abbrev pub ProperIncrements : List Increment → Type 0
ProperIncrements is = (1 ≤ length is) × EachIncrement is

-- "name/number", "number decimal without leading zeros, 0 is `0`"
unfoldable pub increment_text : Increment → List ℕ
increment_text i = i.name ++ (byte "/" ∷ decimal_text i.number)

-- each of them
abbrev pub increment_texts : List Increment → List (List ℕ)
increment_texts [] = []
increment_texts (i ∷ is) = increment_text i ∷ increment_texts is

-- THE INCREMENTS AS THEY ARE WRITTEN: "`TAL` then for each entry `,name/number`, then `.`"
unfoldable pub tal_of : List Increment → List ℕ
tal_of is = bytes "TAL" ++ tail_text (increment_texts is)
