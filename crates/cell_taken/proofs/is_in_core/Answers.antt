-- `cell_taken::is_in_core` meets its contract. Assumes nothing.
use mathlib.Core.Path.{refl, sym, ◌∙◌}
use Rattle.cell_taken.proofs.is_in_core.Goals as goal

pub returns-then-is_in_run : goal.returns-then-is_in_run
returns-then-is_in_run c = rw (sym c.is_in_run.ensures ∙ c.if-is_in_run.true) refl

pub returns : goal.returns
returns c = rw (sym c.is_in_run.ensures ∙ c.if-is_in_run.false) c.is_in_run-2.ensures
