-- `cell::delete` meets its contract. Assumes nothing.
use mathlib.Core.Path.{◌∙◌}
use Rattle.cell.proofs.delete.Goals as goal

pub returns : goal.returns
returns c = c.with_change.ensures ∙ rw c.delete.ensures
