-- `cards_table::put_row` meets its contract. The loop's invariant is `Goes`: whoever puts the characters from k on,
-- up to 66, has put the row. Assumes nothing.
use Rattle.numbers.specs.Limits.{pm_length}
use Prim.Native.Nat.{◌-◌}
use lib.ListN.{take, drop}
use Rattle.text.proofs.RoomLaws.{Goes}
use Rattle.cards_fields.specs.Fields.{padded}
use Rattle.cards_table.specs.Table.{letters_in}
use Rattle.cards_table.proofs.put_row.Given as goal

abbrev pub invariant-loop-k : goal.invariant-loop-k
invariant-loop-k l =
    Goes l.initial.out (padded pm_length (letters_in (take l.n l.text))) l.out
    (padded (pm_length - l.k) (drop l.k (letters_in (take l.n l.text))))
