-- `board_units::put_channel` meets its contract. The loop's invariant is `Goes`: whoever puts the units that are
-- left has put them all. Assumes nothing.
use mathlib.Core.Path.{◌≡◌}
use Prim.Native.Nat.{◌-◌}
use native.Mathlib.Omega.{arith}
use Rattle.text.proofs.RoomLaws.{goes-start}
use Rattle.units.specs.State.{unit_in}
use Rattle.answer_pieces.proofs.PieceLaws.{puts-on, puts-over}
use Rattle.board_units.specs.Units.{unit_line, channel_text}
use Rattle.board_units.proofs.put_channel.Goals as goal

pub loop-u-init : goal.loop-u-init
loop-u-init c = (omega arith, let e : c.count_of-u-end.result - 0 ≡ c.count_of-u-end.result = omega arith in rw e (goes-start _ _))

pub loop-u-preserved : goal.loop-u-preserved
loop-u-preserved c = (
  omega arith,
  puts-on (λ v. unit_line c.args.number.0 v (unit_in c.args.units.of c.args.number.0 v)) c.count_of-u-end.result (omega arith) c.loop-u.invariant.1
      (rw c.unit_at-unit.ensures at c.put_line.ensures),
)

pub returns : goal.returns
unfolding channel_text
returns c =
    rw (← c.count_of-u-end.ensures) (puts-over (λ v. unit_line c.args.number.0 v (unit_in c.args.units.of c.args.number.0 v)) c.count_of-u-end.result
    (omega arith) c.loop-u.invariant.1)
