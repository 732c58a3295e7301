-- `shift_hearing::answer_line` meets its contract: the answer is put behind those before it. Assumes nothing.
use mathlib.Core.Path.{refl}
use Rattle.shift_hearing.proofs.Loop.{put-behind}
use borrow.Author.Rules.{rules}
use Rattle.shift_hearing.proofs.answer_line.Goals as goal

pub returns : goal.returns
returns c =
    record {
      turn = c.take_line-turn.result;
      turns = c.take_line-turn.ensures;
      shift = refl;
      behind = put-behind c.front.ensures (search rules) (search rules) c.put_bytes.ensures.written;
    }
