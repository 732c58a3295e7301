-- `desk_show::opens_for` meets its contract: by its two fields. Assumes nothing.
use Rattle.desk_show.proofs.opens_for.Goals as goal
use mathlib.Core.Path.{sym, ◌∙◌}
use Rattle.desk_show.proofs.IdLaws.{opens-no-id, opens-is}

pub returns-then-not-is_id : goal.returns-then-not-is_id
returns-then-not-is_id c =
    opens-no-id c.args.id.now c.args.card.now (sym c.is_id.ensures ∙ c.if-not-is_id.true)

pub returns : goal.returns
returns c =
    c.field_is-2.ensures ∙ opens-is c.args.id.now c.args.card.now (sym c.field_is.ensures ∙ c.if-not-field_is.false)
    (sym c.is_id.ensures ∙ c.if-not-is_id.false)
