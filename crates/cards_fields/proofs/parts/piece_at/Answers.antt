-- `cards_fields::parts::piece_at` meets its contract: the pieces are those that std's split gives. Assumes nothing.
use mathlib.Core.Path.{refl}
use lib.Dec.{eqb}
use Rattle.std.proofs.Common.{rules, tests}
use Rattle.std.proofs.lemmas.Iterator.Consumers.{nth_from_yields_List}
use Rattle.std.proofs.lemmas.Iterator.Splits.{YieldsList-from_slice_split}
use Rattle.cards_fields.proofs.PartLaws.{piece-lent}
use Rattle.cards_fields.proofs.parts.piece_at.Goals as goal

pub returns : goal.returns
returns c =
    let n = nth_from_yields_List c.nth.result c.nth.new.self c.args.k c.nth.ensures.ran
    (YieldsList-from_slice_split _ (λ b. eqb b c.args.cut) c.args.s.now c.split.ensures.rest c.split.ensures.done c.split.ensures.closure (λ x r q k. search (rules, tests))) in
    rw c.unwrap_or.ensures (piece-lent c.args.cut c.args.s.now c.args.k c.nth.result _ n refl)
