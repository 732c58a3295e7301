-- `board_jobs::put_blocks` meets its contract. The loop's invariant is `Goes`: whoever puts the blocks that are left
-- has put them all. Assumes nothing.
use Prim.Native.Nat.{◌-◌, ◌≤◌}
use mathlib.Core.List.{[], ◌∷◌}
use Rattle.text.proofs.RoomLaws.{Goes}
use Rattle.answer_pieces.specs.Pieces.{each_from}
use Rattle.board_jobs.specs.Blocks.{block_byte, blocks_text}
use Rattle.board_jobs.proofs.put_blocks.Given as goal

abbrev pub invariant-loop-b : goal.invariant-loop-b
invariant-loop-b l =
    (l.b ≤ 32) × Goes l.initial.out (blocks_text l.jobs) l.out (each_from (λ block. block_byte l.jobs block ∷ []) (32 - l.b) l.b)
