-- `cards_trn::third_error` meets its contract: a count or a transfer. Assumes nothing.
use mathlib.Core.Path.{sym, ◌∙◌}
use Rattle.cards_fields.specs.Fields.{spaceless}
use Rattle.cards_trn.proofs.TrnLaws.{third-count, third-transfer}
use Rattle.cards_trn.proofs.third_error.Goals as goal

pub returns-then-is_count : goal.returns-then-is_count
returns-then-is_count c =
    c.count_error.ensures ∙ third-count c.args.counted (spaceless c.args.t.now)
    (sym c.is_count.ensures ∙ c.if-is_count.true)

pub returns-else-is_count : goal.returns-else-is_count
returns-else-is_count c =
    c.transfer_error.ensures ∙ third-transfer c.args.counted (spaceless c.args.t.now)
    (sym c.is_count.ensures ∙ c.if-is_count.false)
