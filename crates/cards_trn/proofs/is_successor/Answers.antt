-- `cards_trn::is_successor` meets its contract: a name, or the executive, gathered whole. Assumes nothing.
use mathlib.Core.Path.{sym, ◌∙◌}
use borrow.Author.Tests.{lt-leb}
use Rattle.cards_fields.specs.Fields.{spaceless}
use Rattle.cards_trn.proofs.TrnLaws.{successor-long, successor-short}
use Rattle.cards_trn.proofs.is_successor.Goals as goal

pub returns-then-f-le6 : goal.returns-then-f-le6
returns-then-f-le6 c =
    rw (sym c.is_name.ensures ∙ c.if-is_name.false)
    (c.is_executive.ensures ∙ successor-short (spaceless c.args.t.now) c.gathered-f.result c.gathered-f.ensures c.if-f-le6.true)

pub returns-else-f-le6 : goal.returns-else-f-le6
returns-else-f-le6 c =
    rw (sym c.is_name.ensures ∙ c.if-is_name.false, lt-leb c.gathered-f.result.len 6 c.if-f-le6.false)
    (sym (successor-long (spaceless c.args.t.now) c.gathered-f.result c.gathered-f.ensures c.if-f-le6.false))
