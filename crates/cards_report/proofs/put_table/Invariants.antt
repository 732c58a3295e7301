-- `cards_report::put_table` meets its contract: the loop's invariant is `Goes`: whoever puts the lines
-- from here on has put all; they are whole lines of the table. Assumes nothing.
use Rattle.numbers.specs.Limits.{pm_length}
use Rattle.text.proofs.RoomLaws.{Goes}
use Rattle.cards_report.proofs.TableLines.{lines_from}
use Prim.Native.Nat.{◌-◌, ◌/◌, ◌%◌}
use mathlib.Core.Path.{◌≡◌}
use Rattle.cards_report.proofs.put_table.Given as goal

abbrev pub invariant-loop-from : goal.invariant-loop-from
invariant-loop-from l =
    (l.from % pm_length ≡ 0) × Goes l.initial.out (lines_from l.table 0 ((l.n - 0) / pm_length)) l.out (lines_from l.table l.from ((l.n - l.from) / pm_length))

abbrev pub decreases-loop-from : goal.decreases-loop-from
decreases-loop-from l = l.n - l.from
