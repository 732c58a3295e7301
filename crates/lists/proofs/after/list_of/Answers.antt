-- `lists::after::list_of` meets its contract. Assumes nothing.
use mathlib.Core.Path.{sym, ◌∙◌}
use Rattle.packets_queue.proofs.Relist.{listed-is}
use Rattle.lists.proofs.after.list_of.Goals as goal

pub returns-then-is_listing : goal.returns-then-is_listing
returns-then-is_listing c =
    λ h. rw (sym c.is_listing.ensures ∙ c.if-is_listing.true, ← listed-is c.args.old.now c.args.count h)
    c.relisted_with.ensures

pub returns : goal.returns
returns c =
    λ h. rw (sym c.is_listing.ensures ∙ c.if-is_listing.false, ← listed-is c.args.old.now c.args.count h)
    c.relisted.ensures.is
