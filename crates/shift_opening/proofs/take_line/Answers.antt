-- `shift_opening::take_line` meets its contract: the line and its LF are kept one behind the other. Assumes nothing.
use Rattle.shift_opening.proofs.OpeningLaws.{keeps-then, answers-as}
use Rattle.shift_opening.proofs.take_line.Goals as goal

pub returns : goal.returns
returns c =
    record { n = c.keep-n.result; keeps = keeps-then c.keep-end.ensures c.keep-n.ensures; answers = answers-as c.judge.ensures c.answered.ensures }
