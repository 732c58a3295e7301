-- `cards_trn::put_transfers` meets its contract. The loop's invariant: whoever puts the fields from index k on has put
-- them all. Assumes nothing.
use Prim.Native.Nat.{◌≤◌}
use lib.ListN.{drop}
use Rattle.text.proofs.RoomLaws.{Goes}
use Rattle.cards_fields.specs.Fields.{fields, tail_text}
use Rattle.cards_trn.proofs.put_transfers.Given as goal

abbrev pub invariant-loop-k : goal.invariant-loop-k
invariant-loop-k l = (3 ≤ l.k) × Goes l.initial.room (tail_text (drop 3 (fields l.card))) l.room (tail_text (drop l.k (fields l.card)))
