-- `cards_writing::put::put_entries` meets its contract. The loop's invariant: whoever puts the entries of the slots from
-- this one on, and the period, has put all. Assumes nothing.
use lib.ListN.{drop}
use Rattle.text.proofs.RoomLaws.{Goes}
use Rattle.cards_fac.specs.Fac.{asks_of}
use Rattle.cards_fields.specs.Fields.{tail_text}
use Rattle.cards_writing.specs.Writing.{entry_texts}
use Rattle.cards_writing.proofs.put.put_entries.Given as goal

abbrev pub invariant-loop-slot : goal.invariant-loop-slot
invariant-loop-slot l =
    Goes l.initial.room (tail_text (entry_texts 0 (asks_of l.f))) l.room (tail_text (entry_texts l.slot (drop l.slot (asks_of l.f))))
