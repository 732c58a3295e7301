-- `cards_trn::put_transfers` meets its contract: one field after the other, and the period. Assumes nothing.
use Prim.Native.Nat.{◌+◌}
use native.Mathlib.Omega.{arith}
use Rattle.text.proofs.RoomLaws.{goes-start}
use Rattle.cards_trn.proofs.TrnLaws.{transfer-turn, transfers-end}
use Rattle.cards_trn.proofs.put_transfers.Goals as goal
use Rattle.cards_trn.proofs.put_transfers.Goals.{else-loop-k-test, then-loop-k-test+else-k-k-end}

pub loop-k-init : goal.loop-k-init
loop-k-init c = (omega arith, goes-start _ _)

pub loop-k-preserved : goal.loop-k-preserved
loop-k-preserved c = (
  omega arith,
  transfer-turn c.args.card.now c.loop-k.k (omega (arith, c.last_field-k-end.ensures)) c.loop-k.invariant.1 c.put_byte.ensures
      (rw c.raw_field.ensures at c.put_name.ensures),
)

pub returns : goal.returns
returns c =
    elim c.loop-k-test.branch [
      | else-loop-k-test w ↦ transfers-end c.args.card.now c.loop-k.k (omega (arith, w.loop-k-test.false, c.last_field-k-end.ensures)) c.loop-k.invariant.1
          (rw w.room-is at c.put_byte-2.ensures)
      | then-loop-k-test+else-k-k-end w ↦ transfers-end c.args.card.now (c.loop-k.k + 1) (omega (arith, w, c.last_field-k-end.ensures))
          (transfer-turn c.args.card.now c.loop-k.k (omega (arith, w.loop-k-test.true, c.last_field-k-end.ensures)) c.loop-k.invariant.1 w.put_byte.ensures
          (rw w.raw_field.ensures at w.put_name.ensures))
          (rw w.room-is at c.put_byte-2.ensures)
    ]
