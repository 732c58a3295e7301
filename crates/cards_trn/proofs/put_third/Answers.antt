-- `cards_trn::put_third` meets its contract: a count in decimal, a transfer as it is. Assumes nothing.
use mathlib.Core.Path.{sym, ◌∙◌}
use Rattle.cards_fields.specs.Fields.{spaceless}
use Rattle.cards_trn.proofs.TrnLaws.{put_count, put-transfer}
use Rattle.cards_trn.proofs.put_third.Goals as goal

pub returns-then-is_count : goal.returns-then-is_count
returns-then-is_count c =
    put_count (spaceless c.args.t.now) (sym c.is_count.ensures ∙ c.if-is_count.true) c.number_of.result c.number_of.ensures
    c.put_decimal.ensures

pub returns : goal.returns
returns c =
    put-transfer (spaceless c.args.t.now) (sym c.is_count.ensures ∙ c.if-is_count.false) c.put_name.ensures
