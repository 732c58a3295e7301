-- `cards_full::put::put_further` meets its contract. The loop's invariant is `Goes`: whoever puts the cards from i on has
-- put all. Assumes nothing.
use lib.ListN.{take, drop}
use Rattle.text.proofs.RoomLaws.{Goes}
use Rattle.cards_fields.specs.Fields.{spaceless}
use Rattle.cards_request.specs.Requests.{texts_in}
use Rattle.words.specs.Lines.{lines_text}
use Rattle.cards_full.specs.Full.{behind_id}
use Rattle.cards_full.proofs.put.put_further.Given as goal

abbrev pub invariant-loop-i : goal.invariant-loop-i
invariant-loop-i l =
    Goes l.initial.room (lines_text (behind_id (spaceless l.id) (texts_in (take l.n l.cards)))) l.room
    (lines_text (behind_id (spaceless l.id) (texts_in (drop l.i (take l.n l.cards)))))
