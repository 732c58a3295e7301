-- `cards_tal::put_tal` meets its contract: the word, one entry after the other, the period. Assumes nothing.
use Prim.Native.Nat.{◌+◌}
use native.Mathlib.Omega.{arith}
use Rattle.text.proofs.RoomLaws.{goes-start}
use Rattle.cards_tal.proofs.TalLaws.{entry-turn, entries-end, tal-put}
use Rattle.cards_tal.proofs.put_tal.Goals as goal
use Rattle.cards_tal.proofs.put_tal.Goals.{else-loop-k-test, then-loop-k-test+else-k-k-end}

pub loop-k-init : goal.loop-k-init
loop-k-init c = (omega arith, goes-start _ _)

pub loop-k-preserved : goal.loop-k-preserved
loop-k-preserved c = (
  omega arith,
  entry-turn c.args.card.now c.loop-k.k (omega (arith, c.last_field-k-end.ensures)) c.loop-k.invariant.1 c.put_byte.ensures
      (rw c.raw_field.ensures at c.put_entry.ensures),
)

pub returns : goal.returns
returns c =
    tal-put c.args.card.now c.put_bytes.ensures
    (elim c.loop-k-test.branch [
      | else-loop-k-test w ↦ entries-end c.args.card.now c.loop-k.k (omega (arith, w.loop-k-test.false, c.last_field-k-end.ensures)) c.loop-k.invariant.1
          (rw w.room-is at c.put_byte-2.ensures)
      | then-loop-k-test+else-k-k-end w ↦ entries-end c.args.card.now (c.loop-k.k + 1) (omega (arith, w, c.last_field-k-end.ensures))
          (entry-turn c.args.card.now c.loop-k.k (omega (arith, w.loop-k-test.true, c.last_field-k-end.ensures)) c.loop-k.invariant.1 w.put_byte.ensures
          (rw w.raw_field.ensures at w.put_entry.ensures))
          (rw w.room-is at c.put_byte-2.ensures)
    ])
