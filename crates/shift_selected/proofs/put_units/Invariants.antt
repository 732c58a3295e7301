-- `shift_selected::put_units` meets its contract. The loop's invariant is `Going`: whoever puts the units that are
-- left has put them all. Assumes nothing.
use Prim.Native.Nat.{◌-◌, ◌≤◌}
use Rattle.text.proofs.RoomLaws.{Goes}
use Rattle.answer_pieces.specs.Pieces.{each_from}
use Rattle.shift_selected.specs.Selected.{unit_at, units_text}
use Rattle.shift_selected.proofs.put_units.Given as goal

abbrev pub invariant-loop-i : goal.invariant-loop-i
invariant-loop-i l =
    (l.i ≤ 256) × Goes l.initial.out (units_text l.channels l.fn.heads l.kind l.logical) l.out (each_from (unit_at l.channels l.fn.heads l.kind l.logical) (256 - l.i) l.i)
