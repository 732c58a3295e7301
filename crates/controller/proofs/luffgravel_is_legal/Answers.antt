-- `controller::luffgravel_is_legal` meets its contract: the table is asked of the kind that the two letters name.
-- Assumes nothing.
use Rattle.std.proofs.Common.{Option}
use mathlib.Core.Path.{sym, ap, ◌∙◌}
use Rattle.numbers.specs.declared.Kind.{Kind}
use Rattle.controller.specs.Exports.{legal_by}
use Rattle.controller.proofs.luffgravel_is_legal.Goals as goal

pub returns-in-Some : goal.returns-in-Some
returns-in-Some c =
    c.legal.ensures ∙ ap (λ (k : Option Kind). legal_by k c.args.function) (sym c.in-Some.is ∙ c.kind_of-coded.ensures)

pub returns-in-None : goal.returns-in-None
returns-in-None c =
    ap (λ (k : Option Kind). legal_by k c.args.function) (sym c.in-None.is ∙ c.kind_of-coded.ensures)
