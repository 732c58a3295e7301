-- `controller::luffgravel_bad_line` meets its contract: the line of the answer that the reader gave. Assumes nothing.
use mathlib.Core.Path.{ap, ◌∙◌}
use Rattle.controller.specs.Exports.{bad_line_of}
use Rattle.controller.proofs.luffgravel_bad_line.Goals as goal

pub returns : goal.returns
returns c = c.bad_line_of.ensures ∙ ap bad_line_of c.read.ensures
