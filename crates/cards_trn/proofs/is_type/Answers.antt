-- `cards_trn::is_type` meets its contract: the text was gathered whole, or is too long. Assumes nothing.
use mathlib.Core.Path.{sym, ◌∙◌}
use borrow.Author.Tests.{lt-leb}
use Rattle.cards_fields.specs.Fields.{spaceless}
use Rattle.cards_trn.proofs.TrnLaws.{type-long, type-short}
use Rattle.cards_trn.proofs.is_type.Goals as goal

pub returns-then-f-le2 : goal.returns-then-f-le2
returns-then-f-le2 c = c.is_type_word.ensures ∙ type-short (spaceless c.args.t.now) c.gathered-f.result c.gathered-f.ensures c.if-f-le2.true

pub returns-else-f-le2 : goal.returns-else-f-le2
returns-else-f-le2 c =
    rw (lt-leb c.gathered-f.result.len 2 c.if-f-le2.false)
    (sym (type-long (spaceless c.args.t.now) c.gathered-f.result c.gathered-f.ensures c.if-f-le2.false))
