-- `board_units::put_units` meets its contract. The loop's invariant is `Goes`: whoever puts the channels that are
-- left has put them all. Assumes nothing.
use native.Mathlib.Omega.{arith}
use lib.ListN.{get_or}
use Rattle.text.proofs.RoomLaws.{goes-start}
use Rattle.channels.specs.Channels.{no_channel}
use Rattle.answer_pieces.proofs.PieceLaws.{puts-on, puts-over}
use Rattle.board_units.specs.Units.{channel_text}
use Rattle.board_units.proofs.put_units.Goals as goal

pub loop-c-init : goal.loop-c-init
loop-c-init c = (omega arith, goes-start _ _)

pub loop-c-preserved : goal.loop-c-preserved
loop-c-preserved c = (
  omega arith,
  puts-on (λ d. channel_text c.args.units.of d (get_or c.args.channels d no_channel)) 16 (omega arith) c.loop-c.invariant.1
      c.put_channel.ensures,
)

pub returns : goal.returns
returns c =
    puts-over (λ d. channel_text c.args.units.of d (get_or c.args.channels d no_channel)) 16 (omega arith) c.loop-c.invariant.1
