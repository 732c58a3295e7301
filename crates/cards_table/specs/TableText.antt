-- The table as it is put, row after row. Nothing here has to be believed: proofs/TableLaws shows that it is the table
-- by place.
use Rattle.std.specs.Prelude.{ℕ, zero, suc, List, [], ◌++◌}
use Rattle.numbers.specs.Limits.{pm_length}
use Rattle.cards_fields.specs.Fields.{padded}
use Rattle.cards_request.specs.Requests.{texts}
use Rattle.cards_request.specs.declared.Further.{Further}
use Rattle.cards_table.specs.Table.{rows, card_at}

-- so many rows from a digit on, each with blanks up to 66
abbrev pub rows_from : ℕ → ℕ → List (List ℕ) → List ℕ
rows_from zero d ts = []
rows_from (suc n) d ts = padded pm_length (card_at d ts) ++ rows_from n (suc d) ts

-- all of them
abbrev pub table_text : Further → List ℕ
table_text f = rows_from (rows (texts f)) 0 (texts f)
