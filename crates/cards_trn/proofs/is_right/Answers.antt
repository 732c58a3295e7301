-- `cards_trn::is_right` meets its contract, part by part. Assumes nothing.
use native.Mathlib.Omega.{arith}
use mathlib.Core.Path.{◌∙◌}
use Rattle.cards_fields.specs.Fields.{spaceless}
use Rattle.cards_trn.proofs.TrnLaws.{right-type, right-successor, right-name}
use Rattle.cards_trn.proofs.is_right.Goals as goal

pub returns-in-1 : goal.returns-in-1
returns-in-1 c =
    c.is_type.ensures ∙ right-type c.args.k (spaceless c.args.t.now) c.in-1.is

pub returns-in-2 : goal.returns-in-2
returns-in-2 c =
    c.is_successor.ensures ∙ right-successor c.args.k (spaceless c.args.t.now) c.in-2.is

pub returns-in_default : goal.returns-in_default
returns-in_default c =
    c.is_name.ensures ∙ right-name c.args.k (spaceless c.args.t.now) c.requires (omega arith) (omega arith)
