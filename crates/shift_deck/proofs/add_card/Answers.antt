-- `shift_deck::add_card` meets its contract: the card and its LF are put one after the other. Assumes nothing.
use Rattle.std.proofs.Common.{arith, rules}
use Rattle.text.proofs.RoomLaws.{and_then}
use Rattle.shift_deck.proofs.GatheringLaws.{added}
use Rattle.shift_deck.proofs.add_card.Goals as goal

pub returns : goal.returns
returns c =
    added c.args.room.now c.args.kept c.args.line.now _ _ (search rules) (omega arith)
    (and_then c.put_bytes.ensures.written c.put_byte.ensures.written)
