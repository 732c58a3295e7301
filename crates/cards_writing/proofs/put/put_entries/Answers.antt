-- `cards_writing::put::put_entries` meets its contract: an entry of which nothing is asked is put as nothing. Assumes
-- nothing.
use mathlib.Core.Path.{◌≡◌}
use native.Mathlib.Omega.{arith}
use lib.ListN.{length}
use Rattle.text.proofs.RoomLaws.{goes-start}
use Rattle.cards_request.specs.Requests.{counts}
use Rattle.cards_fac.specs.Fac.{asks_of}
use Rattle.cards_writing.proofs.PutLaws.{entry-skip, entry-turn, entry-end}
use borrow.Author.Rules.{rules}
use Rattle.cards_writing.proofs.put.put_entries.Goals.{then-n-ne0, else-n-ne0}
use Rattle.cards_writing.proofs.put.put_entries.Goals as goal

pub loop-slot-init : goal.loop-slot-init
loop-slot-init c = goes-start _ _

pub loop-slot-preserved : goal.loop-slot-preserved
loop-slot-preserved c =
    let l : length c.args.f.units ≡ counts = search rules in elim c.if-n-ne0.branch [
      | then-n-ne0 w ↦
          rw w.room-is (entry-turn (asks_of c.args.f) c.loop-slot.slot c.number_at-n.result (omega arith) c.number_at-n.ensures w.if-n-ne0.true
          c.loop-slot.invariant w.put_byte.ensures w.put_entry.ensures)
      | else-n-ne0 w ↦
          rw w.room-is (entry-skip (asks_of c.args.f) c.loop-slot.slot c.number_at-n.result (omega arith) c.number_at-n.ensures w.if-n-ne0.false
          c.loop-slot.invariant)
    ]

pub returns : goal.returns
returns c =
    let l : length c.args.f.units ≡ counts = search rules in
    entry-end (asks_of c.args.f) c.loop-slot.slot (omega arith) c.loop-slot.invariant c.put_byte-2.ensures
