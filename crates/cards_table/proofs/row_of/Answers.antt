-- `cards_table::row_of` meets its contract: one byte after the other. Assumes nothing.
use mathlib.Core.Path.{sym, ◌∙◌}
use native.Mathlib.Omega.{arith}
use Rattle.text.proofs.ClassLaws.{digit-bounds}
use Rattle.cards_table.proofs.TableLaws.{row-short, row-no-p, row-no-m, row-no-digit, row-digit}
use Rattle.cards_table.proofs.row_of.Goals as goal

pub returns-then-card-lt3 : goal.returns-then-card-lt3
returns-then-card-lt3 c = row-short c.args.card.text c.args.card.len c.if-card-lt3.true

pub returns-then-b-ne80 : goal.returns-then-b-ne80
returns-then-b-ne80 c =
    row-no-p c.args.card.text c.args.card.len c.if-card-lt3.false c.if-b-ne80.true

pub returns-then-b-ne77 : goal.returns-then-b-ne77
returns-then-b-ne77 c =
    row-no-m c.args.card.text c.args.card.len c.if-card-lt3.false c.if-b-ne80.false c.if-b-ne77.true

pub overflow_sub-result : goal.overflow_sub-result
overflow_sub-result c = (digit-bounds _ (sym c.is_digit.ensures ∙ c.if-is_digit.true)).0

pub overflow_cast-result : goal.overflow_cast-result
overflow_cast-result c = let b = digit-bounds _ (sym c.is_digit.ensures ∙ c.if-is_digit.true) in omega arith

pub overflow_add-result : goal.overflow_add-result
overflow_add-result c = let b = digit-bounds _ (sym c.is_digit.ensures ∙ c.if-is_digit.true) in omega arith

pub returns-then-is_digit : goal.returns-then-is_digit
returns-then-is_digit c =
    row-digit c.args.card.text c.args.card.len c.if-card-lt3.false c.if-b-ne80.false c.if-b-ne77.false (sym c.is_digit.ensures ∙ c.if-is_digit.true)

pub returns : goal.returns
returns c =
    row-no-digit c.args.card.text c.args.card.len c.if-card-lt3.false c.if-b-ne80.false c.if-b-ne77.false
    (sym c.is_digit.ensures ∙ c.if-is_digit.false)
