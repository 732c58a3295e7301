-- `line_words::word_fits` meets its contract: each answer by the tests that led there. Assumes nothing.
use mathlib.Core.Path.{sym, ap, ◌∙◌}
use Rattle.text.specs.Class.{is_letter}
use Rattle.line_words.proofs.FormLaws.{fits-itself, fits-octal, fits-id, fits-decimal}
use Rattle.line_words.proofs.word_fits.Goals as goal

pub returns-then-is_letter : goal.returns-then-is_letter
returns-then-is_letter c =
    c.is_same.ensures ∙ fits-itself c.args.form.now c.args.word.now
    (sym (ap is_letter c.byte_at.ensures) ∙ sym c.is_letter.ensures ∙ c.if-is_letter.true)

pub returns-then-is_same : goal.returns-then-is_same
returns-then-is_same c =
    c.is_number.ensures ∙ fits-octal c.args.form.now c.args.word.now
    (sym (ap is_letter c.byte_at.ensures) ∙ sym c.is_letter.ensures ∙ c.if-is_letter.false)
    (sym c.is_same-2.ensures ∙ c.if-is_same.true)

pub returns-then-is_same-2 : goal.returns-then-is_same-2
returns-then-is_same-2 c =
    fits-id c.args.form.now c.args.word.now (sym (ap is_letter c.byte_at.ensures) ∙ sym c.is_letter.ensures ∙ c.if-is_letter.false)
    (sym c.is_same-2.ensures ∙ c.if-is_same.false) (sym c.is_same-3.ensures ∙ c.if-is_same-2.true)

pub returns : goal.returns
returns c =
    c.is_number-2.ensures ∙ fits-decimal c.args.form.now c.args.word.now
    (sym (ap is_letter c.byte_at.ensures) ∙ sym c.is_letter.ensures ∙ c.if-is_letter.false) (sym c.is_same-2.ensures ∙ c.if-is_same.false)
    (sym c.is_same-3.ensures ∙ c.if-is_same-2.false)
