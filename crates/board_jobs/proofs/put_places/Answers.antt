-- `board_jobs::put_places` meets its contract. The loop's invariant is `Goes`: whoever puts the places that are left
-- has put them all. Assumes nothing.
use native.Mathlib.Omega.{arith}
use lib.ListN.{take}
use Rattle.text.proofs.RoomLaws.{goes-start}
use Rattle.packets.specs.State.{job_in}
use Rattle.answer_pieces.proofs.PieceLaws.{puts-on, puts-over}
use Rattle.board_jobs.specs.Places.{place_text, id_in}
use Rattle.board_jobs.proofs.put_places.Goals as goal

pub loop-p-init : goal.loop-p-init
loop-p-init c = (omega arith, goes-start _ _)

pub loop-p-preserved : goal.loop-p-preserved
loop-p-preserved c = (
  omega arith,
  puts-on (λ q. place_text q (id_in c.args.entries.now q) (job_in c.args.jobs q).state) 16 (omega arith) c.loop-p.invariant.1
      (rw c.id_in-id.ensures at c.put_place.ensures),
)

pub returns : goal.returns
returns c =
    puts-over (λ q. place_text q (id_in c.args.entries.now q) (job_in c.args.jobs q).state) 16 (omega arith)
    c.loop-p.invariant.1
