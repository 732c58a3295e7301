-- `board_units::put_units` meets its contract. The loop's invariant is `Goes`: whoever puts the channels that are
-- left has put them all. Assumes nothing.
use Prim.Native.Nat.{◌-◌, ◌≤◌}
use lib.ListN.{get_or}
use Rattle.text.proofs.RoomLaws.{Goes}
use Rattle.channels.specs.Channels.{no_channel}
use Rattle.answer_pieces.specs.Pieces.{each_from}
use Rattle.board_units.specs.Units.{channel_text, units_text}
use Rattle.board_units.proofs.put_units.Given as goal

abbrev pub invariant-loop-c : goal.invariant-loop-c
invariant-loop-c l =
    (l.c ≤ 16) × Goes l.initial.out (units_text l.fn.channels l.units.of) l.out
    (each_from (λ d. channel_text l.units.of d (get_or l.fn.channels d no_channel)) (16 - l.c) l.c)
