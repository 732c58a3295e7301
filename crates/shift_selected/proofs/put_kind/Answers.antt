-- `shift_selected::put_kind` meets its contract. The loop's invariant is `Going`: whoever puts the entries that are
-- left has put them all. Assumes nothing.
use native.Mathlib.Omega.{arith}
use Rattle.text.proofs.RoomLaws.{goes-start}
use Rattle.assign_heads.specs.Whose.{logical}
use Rattle.answer_pieces.proofs.PieceLaws.{puts-on, puts-over}
use Rattle.shift_selected.specs.Selected.{asked_text}
use Rattle.shift_selected.proofs.put_kind.Goals as goal

pub loop-l-init : goal.loop-l-init
loop-l-init c = (omega arith, goes-start _ _)

pub loop-l-preserved : goal.loop-l-preserved
loop-l-preserved c = (
  omega arith,
  puts-on (λ i. asked_text c.args.units c.args.channels c.args.heads c.args.kind (logical i)) 16 (omega arith) c.loop-l.invariant.1
      c.put_asked.ensures,
)

pub returns : goal.returns
returns c =
    puts-over (λ i. asked_text c.args.units c.args.channels c.args.heads c.args.kind (logical i)) 16 (omega arith) c.loop-l.invariant.1
