-- `board_units::put_channel` meets its contract. The loop's invariant is `Goes`: whoever puts the units that are
-- left has put them all. Assumes nothing.
use Prim.Native.Nat.{◌-◌, ◌≤◌}
use Rattle.text.proofs.RoomLaws.{Goes}
use Rattle.units.specs.State.{unit_in}
use Rattle.answer_pieces.specs.Pieces.{each_from, each}
use Rattle.board_units.specs.Units.{unit_line}
use Rattle.board_units.proofs.put_channel.Given as goal

abbrev pub invariant-loop-u : goal.invariant-loop-u
invariant-loop-u l =
    (l.u ≤ l.u-end) × Goes l.initial.out (each (λ v. unit_line l.number.0 v (unit_in l.units.of l.number.0 v)) l.u-end) l.out
    (each_from (λ v. unit_line l.number.0 v (unit_in l.units.of l.number.0 v)) (l.u-end - l.u) l.u)
