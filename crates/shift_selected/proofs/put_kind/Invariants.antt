-- `shift_selected::put_kind` meets its contract. The loop's invariant is `Going`: whoever puts the entries that are
-- left has put them all. Assumes nothing.
use Prim.Native.Nat.{◌-◌, ◌≤◌}
use Rattle.text.proofs.RoomLaws.{Goes}
use Rattle.assign_heads.specs.Whose.{logical}
use Rattle.answer_pieces.specs.Pieces.{each_from}
use Rattle.shift_selected.specs.Selected.{asked_text, kind_text}
use Rattle.shift_selected.proofs.put_kind.Given as goal

abbrev pub invariant-loop-l : goal.invariant-loop-l
invariant-loop-l l =
    (l.l ≤ 16) × Goes l.initial.out (kind_text l.units l.channels l.heads l.kind) l.out
    (each_from (λ i. asked_text l.units l.channels l.heads l.kind (logical i)) (16 - l.l) l.l)
