-- `board_jobs::put_places` meets its contract. The loop's invariant is `Goes`: whoever puts the places that are left
-- has put them all. Assumes nothing.
use Prim.Native.Nat.{◌-◌, ◌≤◌}
use lib.ListN.{take}
use Rattle.text.proofs.RoomLaws.{Goes}
use Rattle.packets.specs.State.{job_in}
use Rattle.answer_pieces.specs.Pieces.{each_from}
use Rattle.board_jobs.specs.Places.{place_text, id_in, places_text}
use Rattle.board_jobs.proofs.put_places.Given as goal

abbrev pub invariant-loop-p : goal.invariant-loop-p
invariant-loop-p l =
    (l.p ≤ 16) × Goes l.initial.out (places_text l.fn.jobs l.entries) l.out
    (each_from (λ q. place_text q (id_in l.entries q) (job_in l.fn.jobs q).state) (16 - l.p) l.p)
