-- `shift_packets::spot_on` meets its contract: by the channel, and by whether the number is too large for a unit.
-- Assumes nothing.
use mathlib.Core.Path.{sym, ◌∙◌}
use native.Mathlib.Omega.{arith}
use Rattle.shift_packets.proofs.OnListsLaws.{drum-of, to-drum, to-unit}
use Rattle.shift_packets.specs.Texts.{spot_on}
use Rattle.shift_packets.proofs.spot_on.Goals as goal

pub returns-then-is_drum : goal.returns-then-is_drum
returns-then-is_drum c = let is = drum-of c.args.channels c.args.channel.0 c.fitted_on.ensures c.is_drum.ensures in
    rw c.in-OnDrum.is (to-drum c.args.channels c.args.channel _ _ (sym is ∙ c.if-is_drum.true))

pub returns-in-OnUnit : goal.returns-in-OnUnit
unfolding spot_on
returns-in-OnUnit c = rw c.in-OnUnit.is

pub returns-else-is_drum : goal.returns-else-is_drum
returns-else-is_drum c = let is = drum-of c.args.channels c.args.channel.0 c.fitted_on.ensures c.is_drum.ensures in
    rw c.in-OnDrum.is (to-unit c.args.channels c.args.channel c.in-OnDrum.x _ (sym is ∙ c.if-is_drum.false) _ c.min.ensures)
