-- What the deck and cards programs share: the line of a card error, and that of a refused deck.
use Rattle.std.specs.Prelude.{ℕ, cond, ◌&&◌, List, ◌++◌}
use Rattle.numbers.specs.Quoted.{bytes}
use Rattle.numbers.specs.Refusals.{number_of}
use Rattle.numbers.specs.declared.Refusal.{Refusal}
use Rattle.text.specs.Writing.{decimal_text}
use Rattle.cards_fields.specs.Fields.{field, is_name, is_pty, padded, spaceless}
use Rattle.cards_request.specs.Errors.{error_number}
use Rattle.cards_request.specs.declared.CardError.{CardError}

-- "An error line shows the group's PTY ID if well formed, else the last such before it". The ID shown from a group on,
-- the first card its PTY card; an ID is well formed if it is a name
unfoldable pub shown_by : List ℕ → List ℕ → List ℕ
shown_by card shown = cond (is_pty card && is_name (field card 0)) (padded 6 (field card 0)) shown

-- `SP id ER n`, "numbers unpadded"
abbrev pub error_line : List ℕ → CardError → List ℕ
error_line id e = bytes "SP " ++ (spaceless id ++ (bytes " ER " ++ (decimal_text (error_number e) ++ bytes "\n")))

-- "A refused deck gives the one line `SCH ER 11`"
abbrev pub refused_text : Refusal → List ℕ
refused_text refusal = bytes "SCH ER " ++ (decimal_text (number_of refusal) ++ bytes "\n")
