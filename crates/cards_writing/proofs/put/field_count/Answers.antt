-- `cards_writing::put::field_count` meets its contract, by which of the last two fields are empty. Assumes nothing.
use mathlib.Core.Path.{sym, ◌∙◌}
use borrow.Author.Tests.{eqb-true, eqb-false}
use Rattle.cards_writing.proofs.PutLaws.{all-written, library-left, both_left}
use Rattle.cards_writing.proofs.put.field_count.Goals as goal

pub returns-then-not-is_empty : goal.returns-then-not-is_empty
returns-then-not-is_empty c =
    sym (all-written c.args.n c.args.r (eqb-false _ 0 (sym c.is_empty.ensures ∙ c.if-not-is_empty.true)))

pub returns-then-not-is_empty-2 : goal.returns-then-not-is_empty-2
returns-then-not-is_empty-2 c =
    sym (library-left c.args.n c.args.r (eqb-true _ 0 (sym c.is_empty.ensures ∙ c.if-not-is_empty.false))
    (eqb-false _ 0 (sym c.is_empty-2.ensures ∙ c.if-not-is_empty-2.true)))

pub returns : goal.returns
returns c =
    sym (both_left c.args.n c.args.r (eqb-true _ 0 (sym c.is_empty.ensures ∙ c.if-not-is_empty.false))
    (eqb-true _ 0 (sym c.is_empty-2.ensures ∙ c.if-not-is_empty-2.false)))
