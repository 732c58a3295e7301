-- `cards_trn::has_count` meets its contract: there is a third field, and it is a count. Assumes nothing.
use mathlib.Core.Path.{ap, ◌∙◌}
use mathlib.Core.List.{List}
use Prim.Native.Nat.{ℕ}
use native.Mathlib.Omega.{arith}
use Rattle.std.proofs.lemmas.Bool.Decides.{nat_tests}
use Rattle.cards_fields.specs.Fields.{spaceless}
use Rattle.cards_trn.specs.Trn.{is_count}
use Rattle.cards_trn.proofs.TrnLaws.{count-absent, count-there}
use Rattle.cards_trn.proofs.has_count.Goals as goal

pub returns-then-last_field-ge2 : goal.returns-then-last_field-ge2
returns-then-last_field-ge2 c =
    c.is_count.ensures ∙ ap (λ (s : List ℕ). is_count (spaceless s)) c.raw_field.ensures ∙ count-there c.args.card.now (omega (arith, c.last_field.ensures))

pub returns-else-last_field-ge2 : goal.returns-else-last_field-ge2
returns-else-last_field-ge2 c = grind (arith, nat_tests, count-absent)
