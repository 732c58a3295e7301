-- `cards_pm::is_fault` meets its contract: malformed, or a text too long. Assumes nothing.
use Prim.Native.Nat.{ℕ}
use mathlib.Core.Path.{sym, ap, ◌∙◌}
use mathlib.Core.List.{List}
use lib.Dec.{ltb}
use lib.ListN.{length}
use Rattle.numbers.specs.Limits.{pm_length}
use Rattle.cards_pm.proofs.PmLaws.{fault-form, fault-letters}
use Rattle.cards_pm.proofs.is_fault.Goals as goal

pub returns-then-is_malformed : goal.returns-then-is_malformed
returns-then-is_malformed c =
    rw c.if-is_malformed.true (sym (fault-form c.args.card.now (sym c.is_malformed.ensures ∙ c.if-is_malformed.true)))

pub returns-else-is_malformed : goal.returns-else-is_malformed
returns-else-is_malformed c =
    ap (λ (l : List ℕ). ltb pm_length (length l)) c.letters.ensures
    ∙ fault-letters c.args.card.now (sym c.is_malformed.ensures ∙ c.if-is_malformed.false)
