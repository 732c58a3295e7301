-- `shift_script::message_in` meets its contract: what is left behind four bytes, if so many are there. Assumes nothing.
use Rattle.shift_script.proofs.KeyLaws.{message}
use Rattle.shift_script.proofs.message_in.Goals as goal

pub returns : goal.returns
returns c = message c.args.line.now c.min.ensures
