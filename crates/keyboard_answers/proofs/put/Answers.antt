-- `keyboard_answers::put` meets its contract: what is put fits. Assumes nothing.
use Rattle.text.proofs.RoomLaws.{puts-then}
use Rattle.keyboard_answers.proofs.AnswerLaws.{answer-whole}
use borrow.Author.Rules.{rules}
use Rattle.keyboard_answers.proofs.put.Goals as goal

pub returns : goal.returns
returns c =
    answer-whole c.args.asks c.args.told (search rules) (puts-then c.put_mc.ensures c.put_told.ensures).written
