-- `cards_fields::parts::is_name` meets its contract: the text was gathered whole. Assumes nothing.
use mathlib.Core.Path.{◌∙◌}
use native.Mathlib.Omega.{arith}
use Rattle.std.proofs.lemmas.Bool.Decides.{nat_tests}
use Rattle.cards_fields.specs.Fields.{spaceless}
use Rattle.cards_fields.proofs.PartLaws.{name-none, name-long, name-some}
use Rattle.cards_fields.proofs.parts.is_name.Goals as goal

pub returns-then-f-le6 : goal.returns-then-f-le6
returns-then-f-le6 c =
    c.all_of.ensures ∙ name-some (spaceless c.args.s.now) c.gathered-f.result c.gathered-f.ensures (omega arith) (omega arith)

pub returns-else-f-le6 : goal.returns-else-f-le6
returns-else-f-le6 c = grind (arith, nat_tests, name-none, name-long)
