-- `shift_reply::on_lists` meets its contract: the lists answer, and the schedule follows. Assumes nothing.
use mathlib.Core.Path.{ap}
use Rattle.schedule_list.specs.declared.Schedule.{Schedule}
use Rattle.cell.specs.Calls.{cell_of}
use Rattle.shift_reply.specs.declared.Replied.{Replied}
use Rattle.shift_reply.proofs.on_lists.Goals as goal

pub returns : goal.returns
returns c =
    record {
      handled = c.reply-handled.result;
      handles = c.reply-handled.ensures;
      is = ap (λ (s : Schedule). let r : Replied = record { cell = cell_of s c.reply-handled.result.lists; at = c.reply-handled.result.at } in r)
          c.follow-next.ensures;
    }
