-- `cards_writing::put::is_empty` meets its contract: nothing of an empty field is put. Assumes nothing.
use Rattle.cards_writing.proofs.PutLaws.{put-empty}
use Rattle.cards_writing.proofs.put.is_empty.Goals as goal

pub returns : goal.returns
returns c = put-empty c.put_field.ensures.written
