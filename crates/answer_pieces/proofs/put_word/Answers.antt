-- `answer_pieces::put_word` meets its contract: the word, or nothing. Assumes nothing.
use Rattle.text.proofs.RoomLaws.{puts-none}
use Rattle.answer_pieces.proofs.put_word.Goals as goal

pub returns-then-holds : goal.returns-then-holds
returns-then-holds c = rw c.if-holds.true c.put_bytes.ensures

pub returns-else-holds : goal.returns-else-holds
returns-else-holds c =
    rw c.if-holds.false (puts-none c.args.room.now)
