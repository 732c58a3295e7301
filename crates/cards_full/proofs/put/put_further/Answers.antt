-- `cards_full::put::put_further` meets its contract. The loop's invariant is `Goes`: whoever puts the cards from i on has
-- put all. Assumes nothing.
use Prim.Native.Nat.{ℕ}
use mathlib.Core.Path.{subst}
use mathlib.Core.List.{List}
use native.Mathlib.Omega.{arith}
use lib.ListN.{take}
use Rattle.text.specs.Room.{Puts}
use Rattle.text.proofs.RoomLaws.{Goes, goes-end}
use Rattle.cards_fields.specs.Fields.{spaceless}
use Rattle.cards_request.specs.Requests.{texts_in}
use Rattle.cards_further.proofs.Fourteen.{fourteen, within-cards, the-texts}
use Rattle.words.specs.Lines.{lines_text}
use Rattle.cards_full.specs.Full.{behind_id}
use Rattle.cards_full.proofs.FurtherPut.{lines-turn, lines_end}
use Rattle.cards_full.proofs.put.put_further.Goals as goal

pub loop-i-init : goal.loop-i-init
loop-i-init c = λ after p. p

pub offset_bounds-cards-i : goal.offset_bounds-cards-i
offset_bounds-cards-i c =
    let l = fourteen c.args.further _ c.well_formed.1.1.0 in
    omega (arith, l, within-cards c.args.further c.count_of-n.result c.count_of-n.ensures, c.loop-i-test.true)

pub bounds-cards-i : goal.bounds-cards-i
bounds-cards-i c =
    let l = fourteen c.args.further _ c.well_formed.1.1.0 in
    omega (arith, l, within-cards c.args.further c.count_of-n.result c.count_of-n.ensures, c.loop-i-test.true)

pub loop-i-preserved : goal.loop-i-preserved
loop-i-preserved c =
    lines-turn (spaceless c.args.id.now) c.args.further.cards c.count_of-n.result
    (within-cards c.args.further c.count_of-n.result c.count_of-n.ensures) c.loop-i.i c.loop-i-test.true c.loop-i.invariant
    c.put_card.ensures

pub returns : goal.returns
returns c =
    subst
    (λ (x : List (List ℕ)). Puts c.args.room.now (lines_text (behind_id (spaceless c.args.id.now) x)) c.loop-i.room)
    (the-texts c.args.further c.count_of-n.result c.count_of-n.ensures)
    (goes-end (subst (λ (x : List ℕ). Goes c.args.room.now
    (lines_text (behind_id (spaceless c.args.id.now) (texts_in (take c.count_of-n.result c.args.further.cards)))) c.loop-i.room x)
    (lines_end (spaceless c.args.id.now) c.args.further.cards c.count_of-n.result
    (within-cards c.args.further c.count_of-n.result c.count_of-n.ensures) c.loop-i.i (omega arith))
    c.loop-i.invariant))
