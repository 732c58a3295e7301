-- `cards_trn::put_trn` meets its contract: the word, the third field, the transfers. Assumes nothing.
use native.Mathlib.Omega.{arith}
use Rattle.cards_trn.proofs.TrnLaws.{trn-empty, trn-put}
use Rattle.cards_trn.proofs.put_trn.Goals as goal

pub returns-then-last_field-lt2 : goal.returns-then-last_field-lt2
returns-then-last_field-lt2 c =
    trn-empty c.args.card.now c.put_bytes.ensures (omega (arith, c.last_field.ensures)) c.put_byte.ensures

pub returns : goal.returns
returns c =
    trn-put c.args.card.now c.put_bytes.ensures (omega (arith, c.last_field.ensures)) c.put_byte-2.ensures (rw c.raw_field.ensures at c.put_third.ensures)
    c.put_transfers.ensures
