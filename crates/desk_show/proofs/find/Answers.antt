-- `desk_show::find` meets its contract: both decks are looked at before anything is searched for. Assumes nothing.
use Rattle.desk_show.proofs.PartLaws.{found-shows, refused-shows, read-long, is-bad}
use Rattle.desk_show.proofs.find.Goals as goal
use mathlib.Core.Path.{sym, ◌∙◌}
use mathlib.Core.Logic.{inl, inr}

pub slice_bounds-find_in-end : goal.slice_bounds-find_in-end
slice_bounds-find_in-end c =
    read-long c.args.repair.now c.in-Ok.n (sym c.deck_end.ensures ∙ c.in-Ok.is)

pub slice_bounds-find_in-end-in-Ok-deck_end : goal.slice_bounds-find_in-end-in-Ok-deck_end
slice_bounds-find_in-end-in-Ok-deck_end c =
    read-long c.args.day.now c.in-Ok-deck_end.m (sym c.deck_end-in-Ok.ensures ∙ c.in-Ok-deck_end.is)

pub returns-in-Ok-deck_end : goal.returns-in-Ok-deck_end
returns-in-Ok-deck_end c =
    found-shows c.args.id.now c.args.repair.now c.args.day.now (sym c.deck_end.ensures ∙ c.in-Ok.is)
    (sym c.deck_end-in-Ok.ensures ∙ c.in-Ok-deck_end.is) c.find_in.ensures

pub returns-in-Err-deck_end : goal.returns-in-Err-deck_end
returns-in-Err-deck_end c =
    let b = is-bad c.args.day.now c.in-Err-deck_end.refusal (sym c.deck_end-in-Ok.ensures ∙ c.in-Err-deck_end.is) in
    refused-shows c.args.id.now c.args.repair.now c.args.day.now c.in-Err-deck_end.refusal (b.0, inr b.1) c.refused.ensures

pub returns-in-Err : goal.returns-in-Err
returns-in-Err c =
    let b = is-bad c.args.repair.now c.in-Err.refusal (sym c.deck_end.ensures ∙ c.in-Err.is) in
    refused-shows c.args.id.now c.args.repair.now c.args.day.now c.in-Err.refusal (b.0, inl b.1) c.refused-in-Err.ensures
