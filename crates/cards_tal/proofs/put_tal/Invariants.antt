-- `cards_tal::put_tal` meets its contract. The loop's invariant: whoever puts the entries from index k on has put them
-- all. Assumes nothing.
use Prim.Native.Nat.{◌≤◌}
use lib.ListN.{drop}
use Rattle.text.proofs.RoomLaws.{Goes}
use Rattle.cards_fields.specs.Fields.{fields, tail_text}
use Rattle.cards_tal.specs.Tal.{entry_texts}
use Rattle.cards_tal.proofs.put_tal.Given as goal

abbrev pub invariant-loop-k : goal.invariant-loop-k
invariant-loop-k l =
    (2 ≤ l.k) × Goes l.initial.room (tail_text (entry_texts (drop 2 (fields l.card)))) l.room (tail_text (entry_texts (drop l.k (fields l.card))))
