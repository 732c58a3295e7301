-- `shift_hearing::answer_call` meets its contract: the answer is put behind those before it. Assumes nothing.
use mathlib.Core.Path.{refl}
use Rattle.shift_hearing.proofs.Loop.{put-behind}
use borrow.Author.Rules.{rules}
use Rattle.shift_hearing.proofs.answer_call.Goals as goal

pub returns : goal.returns
returns c =
    record {
      handled = c.reply-handled.result;
      handles = c.reply-handled.ensures;
      leaves = refl;
      says = refl;
      behind = put-behind c.front.ensures (search rules) (search rules) c.put_bytes.ensures.written;
    }
