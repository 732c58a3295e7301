-- `cards_report::put_good` meets its contract: the cards as they were written, then the table. Assumes
-- nothing.
use mathlib.Core.Path.{refl}
use lib.ListN.{replicate}
use Rattle.numbers.specs.Limits.{cards_room}
use Rattle.cards_report.proofs.Bounds.{cards-long, cards-within, cards-put, not-put}
use Rattle.cards_report.proofs.put_good.Goals as goal

pub slice_bounds-room-end : goal.slice_bounds-room-end
slice_bounds-room-end c =
    cards-within c.args.full (replicate cards_room 0) c.write.ensures.answers c.write.ensures.holds refl c.in-Ok.n c.in-Ok.is

pub slice_bounds-put_bytes-end : goal.slice_bounds-put_bytes-end
slice_bounds-put_bytes-end c =
    cards-long c.args.full (replicate cards_room 0) c.write.ensures.answers c.write.ensures.holds refl c.in-Ok.n c.in-Ok.is

pub returns-in-Ok : goal.returns-in-Ok
returns-in-Ok c =
    cards-put c.args.full (replicate cards_room 0) c.write.ensures.answers c.write.ensures.holds refl c.in-Ok.n c.in-Ok.is c.args.shown
    c.put_bytes.ensures c.put_table.ensures

pub returns-in-Err : goal.returns-in-Err
returns-in-Err c =
    not-put c.args.full (replicate cards_room 0) c.write.ensures.answers c.write.ensures.holds refl c.in-Err.refusal c.in-Err.is
    c.args.shown c.put_refusal.ensures
