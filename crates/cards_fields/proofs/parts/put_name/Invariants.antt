-- `cards_fields::parts::put_name` meets its contract. The loop's invariant: whoever puts the rest of the name without
-- blanks has put the whole. Assumes nothing.
use lib.ListN.{drop}
use Rattle.text.proofs.RoomLaws.{Goes}
use Rattle.cards_fields.specs.Fields.{spaceless}
use Rattle.cards_fields.proofs.parts.put_name.Given as goal

abbrev pub invariant-loop-b : goal.invariant-loop-b
invariant-loop-b l = Goes l.initial.room (spaceless l.name) l.room (spaceless (drop l.b-index l.name))
