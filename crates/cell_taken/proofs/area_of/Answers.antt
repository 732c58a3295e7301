-- `cell_taken::area_of` meets its contract. Assumes nothing.
use mathlib.Core.Path.{sym, ◌∙◌}
use Rattle.cell_taken.proofs.area_of.Goals as goal

pub returns-then-is_empty : goal.returns-then-is_empty
returns-then-is_empty c = rw (sym c.is_empty.ensures ∙ c.if-is_empty.true)

pub returns : goal.returns
returns c = rw (sym c.is_empty.ensures ∙ c.if-is_empty.false)
