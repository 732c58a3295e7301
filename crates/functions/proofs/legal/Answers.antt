-- `functions::legal` meets its contract: the table's rule at the entry that is read, and nothing is legal past the
-- table. Assumes nothing.
use mathlib.Core.Path.{◌∙◌, ap, sym}
use mathlib.Core.Bool.{false}
use Prim.Native.Nat.{ℕ, ◌+◌, ◌*◌}
use lib.ListN.{get_or}
use borrow.Author.Tests.{le-ltb}
use Rattle.functions.proofs.Rule.{legal_table, legal-at, none_above}
use Rattle.functions.proofs.legal.Goals as goal

pub returns-then-code-lt64 : goal.returns-then-code-lt64
unfolding legal_table
returns-then-code-lt64 c =
    ap (λ (r : ℕ). get_or legal_table (r * 64 + c.args.code) false) c.row_of-row.ensures.is
    ∙ legal-at c.args.kind c.args.code c.if-code-lt64.true

pub returns-else-code-lt64 : goal.returns-else-code-lt64
returns-else-code-lt64 c = le-ltb c.args.code 64 c.if-code-lt64.false ∙ sym (none_above c.args.kind c.args.code c.if-code-lt64.false)
