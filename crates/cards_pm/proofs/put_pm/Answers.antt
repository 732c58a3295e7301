-- `cards_pm::put_pm` meets its contract: its pieces, one after the other. Assumes nothing.
use Rattle.cards_pm.proofs.PmLaws.{pm-put}
use Rattle.cards_pm.proofs.put_pm.Goals as goal

pub returns : goal.returns
returns c =
    pm-put c.args.card.now c.digit_of.ensures c.letters.ensures c.put_bytes.ensures c.put_byte.ensures c.put_byte-2.ensures
    c.put_bytes-2.ensures c.put_byte-3.ensures
