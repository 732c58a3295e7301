-- `board::put` meets its contract: one part after the other. Assumes nothing.
use Rattle.std.proofs.Common.{◌≡◌, length, take, rules}
use Rattle.std.proofs.lemmas.List.{take_min}
use Rattle.text.specs.Room.{Puts}
use Rattle.text.proofs.RoomLaws.{puts-then}
use Rattle.board.specs.Board.{board_text, queue_of}
use Rattle.board.proofs.Typed.{typed, boarded}
use Rattle.board.proofs.put.Goals as goal

pub returns : goal.returns
returns c =
    let l : length c.args.lists.list.entries ≡ 256 = search rules in
    let queue : take c.min.result c.args.lists.list.entries ≡ queue_of c.args.lists =
    rw (c.min.ensures, ← l) (take_min c.args.lists.list.count c.args.lists.list.entries) in
    let p : Puts c.args.out.now (board_text c.args.lists c.args.schedule) c.put_bytes.new.self =
    puts-then (rw c.requests-requests.ensures.same at c.put_places.ensures) (puts-then c.put_units.ensures
    (puts-then c.put_core.ensures (puts-then c.put_drum.ensures (puts-then c.put_moves.ensures
    (puts-then (rw queue at c.put_listed.ensures) (puts-then (rw c.requests-requests.ensures.same at c.put_requests.ensures) c.put_bytes.ensures)))))) in
    record { boarded = boarded (typed c.args.lists c.args.schedule _ _ c.well_formed.1.0 c.well_formed.1.1.0) p.written; same = p.same }
