-- `cell::key` meets its contract: what the message asks for is done, and its answer put. Assumes nothing.
use mathlib.Core.Path.{◌∙◌}
use Rattle.cell.proofs.key.Goals as goal

pub returns : goal.returns
returns c =
    record { does = c.heed-heeded.ensures ∙ rw c.read-read.ensures; text = rw (← c.read-read.ensures) c.put.ensures }
