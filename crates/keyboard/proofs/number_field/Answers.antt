-- `keyboard::number_field` meets its contract: each answer by the tests that led there. Assumes nothing.
use mathlib.Core.Path.{refl, sym, ◌∙◌}
use lib.ListN.{get_or}
use Rattle.keyboard.proofs.MessageLaws.{field-short, field-other, field-nondigit, field-large, field_is}
use Rattle.keyboard.proofs.number_field.Goals as goal

pub returns-then-field-le1 : goal.returns-then-field-le1
returns-then-field-le1 c = field-short c.args.letter c.args.large c.args.field.now c.if-field-le1.true

pub returns-then-field-letter : goal.returns-then-field-letter
returns-then-field-letter c =
    field-other c.args.letter c.args.large c.args.field.now c.if-field-le1.false (get_or c.args.field.now 0 0)
    refl c.if-field-letter.true

pub returns-then-not-all_of : goal.returns-then-not-all_of
returns-then-not-all_of c =
    field-nondigit c.args.letter c.args.large c.args.field.now c.if-field-le1.false (get_or c.args.field.now 0 0) refl c.if-field-letter.false
    (sym c.all_of.ensures ∙ c.if-not-all_of.true)

pub small_value-number-requires : goal.small_value-number-requires
small_value-number-requires c = (sym c.all_of.ensures ∙ c.if-not-all_of.false)

pub returns-then-number-gt15 : goal.returns-then-number-gt15
returns-then-number-gt15 c =
    field-large c.args.letter c.args.large c.args.field.now c.if-field-le1.false (get_or c.args.field.now 0 0) refl c.if-field-letter.false
    (sym c.all_of.ensures ∙ c.if-not-all_of.false) c.small_value-number.result
    c.small_value-number.ensures c.if-number-gt15.true

pub returns-else-number-gt15 : goal.returns-else-number-gt15
returns-else-number-gt15 c =
    field_is c.args.letter c.args.large c.args.field.now c.if-field-le1.false (get_or c.args.field.now 0 0) refl c.if-field-letter.false
    (sym c.all_of.ensures ∙ c.if-not-all_of.false) c.small_value-number.result
    c.small_value-number.ensures c.if-number-gt15.false
