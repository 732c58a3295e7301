-- `assign::drum_length` meets its contract. The loop's invariant: the channels that are left decide. Assumes nothing.
use mathlib.Core.Path.{sym, ◌∙◌}
use native.Mathlib.Omega.{arith}
use Rattle.assign.proofs.Parts.{drum-none, drum-other, drum-here, drum-end}
use Rattle.assign.proofs.drum_length.Goals as goal
use Rattle.assign.proofs.drum_length.Goals.{in-Some+else-is_drum, in_default}

pub returns-then-is_drum : goal.returns-then-is_drum
returns-then-is_drum c =
    sym (sym c.loop-channel.invariant
    ∙ drum-here c.args.channels c.loop-channel.channel-index (omega arith) c.in-Some.is (sym c.is_drum.ensures ∙ c.if-is_drum.true))

pub loop-channel-preserved : goal.loop-channel-preserved
loop-channel-preserved c =
    (elim c.match-channel.branch [
      | in-Some+else-is_drum w ↦ drum-other c.args.channels c.loop-channel.channel-index (omega arith) w.in-Some.is (sym w.is_drum.ensures ∙ w.if-is_drum.false)
      | in_default w ↦ drum-none c.args.channels c.loop-channel.channel-index (omega arith) w.in_default.is
    ]) ∙ c.loop-channel.invariant

pub returns : goal.returns
returns c = sym (sym c.loop-channel.invariant ∙ drum-end c.args.channels c.loop-channel.channel-index (omega arith))
