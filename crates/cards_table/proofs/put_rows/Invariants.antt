-- `cards_table::put_rows` meets its contract. The loop's invariant is `Goes`: whoever puts the rows from the digit on
-- has put them all. Assumes nothing.
use Prim.Native.Nat.{◌-◌}
use Rattle.text.proofs.RoomLaws.{Goes}
use Rattle.cards_request.specs.Requests.{texts}
use Rattle.cards_table.specs.TableText.{rows_from, table_text}
use Rattle.cards_table.proofs.put_rows.Given as goal

abbrev pub invariant-loop-digit : goal.invariant-loop-digit
invariant-loop-digit l =
    Goes l.initial.out (table_text l.further) l.out (rows_from (l.n - l.digit) l.digit (texts l.further))
