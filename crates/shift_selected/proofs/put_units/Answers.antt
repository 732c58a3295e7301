-- `shift_selected::put_units` meets its contract. The loop's invariant is `Going`: whoever puts the units that are
-- left has put them all. Assumes nothing.
use native.Mathlib.Omega.{arith}
use Rattle.text.proofs.RoomLaws.{goes-start}
use Rattle.answer_pieces.proofs.PieceLaws.{puts-on, puts-over}
use Rattle.shift_selected.specs.Selected.{unit_at}
use Rattle.shift_selected.proofs.put_units.Goals as goal

pub loop-i-init : goal.loop-i-init
loop-i-init c = (omega arith, goes-start _ _)

pub loop-i-preserved : goal.loop-i-preserved
loop-i-preserved c = (
  omega arith,
  puts-on (unit_at c.args.channels c.args.heads c.args.kind c.args.logical) 256 (omega arith) c.loop-i.invariant.1
      c.put_given.ensures,
)

pub returns : goal.returns
returns c =
    puts-over (unit_at c.args.channels c.args.heads c.args.kind c.args.logical) 256 (omega arith) c.loop-i.invariant.1
