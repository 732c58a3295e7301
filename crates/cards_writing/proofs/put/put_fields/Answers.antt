-- `cards_writing::put::put_fields` meets its contract: a comma and a field more. Assumes nothing.
use native.Mathlib.Omega.{arith}
use Rattle.text.proofs.RoomLaws.{goes-start}
use Rattle.cards_writing.proofs.PutLaws.{pty-turn, pty-end}
use Rattle.cards_writing.proofs.put.put_fields.Goals as goal

pub loop-k-init : goal.loop-k-init
loop-k-init c = (c.field_count-count.ensures, goes-start _ _)

pub loop-k-preserved : goal.loop-k-preserved
loop-k-preserved c = (
  c.loop-k.invariant.0,
  pty-turn c.args.n c.args.r c.loop-k.k (omega arith) c.loop-k.invariant.1 c.put_byte.ensures c.put_field.ensures,
)

pub returns : goal.returns
returns c = pty-end c.args.n c.args.r c.loop-k.k (omega arith) c.loop-k.invariant.1 c.put_byte-2.ensures
