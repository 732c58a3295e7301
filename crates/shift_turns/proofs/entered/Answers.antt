-- `shift_turns::entered` meets its contract. Assumes nothing.
use mathlib.Core.Path.{sym}
use lib.Seq.{length-take-le}
use Rattle.shift_turns.proofs.TurnLaws.{entered}
use Rattle.shift_turns.proofs.entered.Goals as goal

pub slice_bounds-reply_deck-end : goal.slice_bounds-reply_deck-end
slice_bounds-reply_deck-end c = sym (length-take-le c.args.n c.args.room.now c.requires)

pub returns : goal.returns
returns c = entered c.reply_deck-replied.ensures c.turned.ensures
