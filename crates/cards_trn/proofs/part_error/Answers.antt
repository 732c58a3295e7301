-- `cards_trn::part_error` meets its contract: the part's length first, then its content. Assumes nothing.
use mathlib.Core.Path.{sym, ◌∙◌}
use mathlib.Core.Bool.{true, false}
use Rattle.cards_trn.proofs.TrnLaws.{part-long, part_right}
use Rattle.cards_trn.proofs.part_error.Goals as goal

pub returns-then-k-gathered : goal.returns-then-k-gathered
returns-then-k-gathered c =
    sym (part-long c.args.t.now c.args.k c.piece_at-part.result.now c.piece_at-part.ensures c.gathered.result c.gathered.ensures c.if-k-gathered.true)

pub returns-then-not-is_right : goal.returns-then-not-is_right
returns-then-not-is_right c =
    sym (part_right c.args.t.now c.args.k c.piece_at-part.result.now c.piece_at-part.ensures c.gathered.result c.gathered.ensures
    c.if-k-gathered.false false (sym c.if-not-is_right.true ∙ c.is_right.ensures))

pub returns : goal.returns
returns c =
    sym (part_right c.args.t.now c.args.k c.piece_at-part.result.now c.piece_at-part.ensures c.gathered.result c.gathered.ensures
    c.if-k-gathered.false true (sym c.if-not-is_right.false ∙ c.is_right.ensures))
