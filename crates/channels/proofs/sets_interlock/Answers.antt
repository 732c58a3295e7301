-- `channels::sets_interlock` meets its contract: a code over 63 is past the word's bits. Assumes nothing.
use Rattle.std.proofs.Common.{refl, arith}
use Rattle.numbers.proofs.BitLaws.{bit_high}
use Rattle.channels.specs.Channels.{sets_interlock}
use Rattle.channels.proofs.sets_interlock.Goals as goal

pub returns-then-code-le63 : goal.returns-then-code-le63
unfolding sets_interlock
returns-then-code-le63 c = refl

pub returns-else-code-le63 : goal.returns-else-code-le63
unfolding sets_interlock
returns-else-code-le63 c = grind (arith, bit_high c.args.codes 64 c.args.code (omega arith))
