-- `cards_table::row_count` meets its contract. The loop's invariant: the most rows so far, and those of the cards from
-- i on, are the table's. Assumes nothing.
use Prim.Native.Nat.{max}
use mathlib.Core.Path.{◌≡◌}
use lib.ListN.{take, drop}
use Rattle.cards_request.specs.Requests.{texts_in}
use Rattle.cards_table.specs.Table.{rows}
use Rattle.cards_table.proofs.row_count.Given as goal

abbrev pub invariant-loop-i : goal.invariant-loop-i
invariant-loop-i l = max l.most (rows (texts_in (drop l.i (take l.n l.cards)))) ≡ rows (texts_in (take l.n l.cards))
