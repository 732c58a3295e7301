-- `shift_selected::put_kinds` meets its contract. The loop's invariant is `Going`: whoever puts the kinds that are left has
-- put them all. Assumes nothing.
use Prim.Native.Nat.{◌-◌, ◌≤◌}
use Rattle.numbers.specs.Kinds.{unit_kinds, kind_at}
use Rattle.text.proofs.RoomLaws.{Goes}
use Rattle.answer_pieces.specs.Pieces.{each_from}
use Rattle.shift_selected.specs.Selected.{kind_text, kinds_text}
use Rattle.shift_selected.proofs.put_kinds.Given as goal

abbrev pub invariant-loop-order : goal.invariant-loop-order
invariant-loop-order l =
    (l.order ≤ unit_kinds) × Goes l.initial.out (kinds_text l.units l.channels l.heads) l.out
    (each_from (λ i. kind_text l.units l.channels l.heads (kind_at i)) (unit_kinds - l.order) l.order)
