-- `text::put_byte` meets its contract: stored where the room has the place, and nothing else past its end. Assumes
-- nothing.
use mathlib.Core.Path.{sym}
use lib.Seq.{set_out}
use native.Mathlib.Omega.{arith}
use Rattle.text.proofs.put_byte.Goals as goal

pub returns : goal.returns
returns c =
    record { bytes = sym (set_out c.args.room.now c.args.at c.args.b c.if-at-room.false); reached = omega (arith, c.if-at-room.false) }
