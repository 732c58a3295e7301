-- `shift_reply::key` meets its contract: the answer stands whole in the room lent for it, so its bytes are that room's
-- first. Assumes nothing.
use borrow.Author.Rules.{rules}
use Rattle.text.proofs.RoomLaws.{puts-then, whole-within, whole_length}
use Rattle.shift_reply.proofs.ReplyLaws.{back, keys}
use Rattle.shift_reply.proofs.key.Goals as goal

pub slice_bounds-told-end : goal.slice_bounds-told-end
slice_bounds-told-end c = whole-within c.key-answer.ensures.text

pub slice_bounds-put_bytes-end : goal.slice_bounds-put_bytes-end
slice_bounds-put_bytes-end c = whole_length c.key-answer.ensures.text

pub returns : goal.returns
returns c =
    keys c.key-answer.ensures c.put_bytes.ensures.written
    (back (puts-then c.put_bytes.ensures c.put_byte.ensures).same (search rules) c.put_byte.ensures.written)
