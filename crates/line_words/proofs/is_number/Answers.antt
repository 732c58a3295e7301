-- `line_words::is_number` meets its contract: too short, too long, or its digits tell. Assumes nothing.
use mathlib.Core.Path.{sym, ap, ◌∙◌}
use Rattle.words.specs.Words.{every, has}
use Rattle.line_words.specs.Forms.{digits}
use Rattle.line_words.specs.declared.Base.{Base}
use Rattle.line_words.proofs.FormLaws.{number_short, number-long, number_digits}
use Rattle.line_words.proofs.is_number.Goals as goal

pub returns-then-word-eq0 : goal.returns-then-word-eq0
returns-then-word-eq0 c = sym (number_short c.args.base c.args.word.now c.if-word-eq0.true)

pub returns-then-word-gt9 : goal.returns-then-word-gt9
returns-then-word-gt9 c =
    sym (number-long c.args.base c.args.word.now c.if-word-gt9.true)

pub returns-in-Decimal : goal.returns-in-Decimal
returns-in-Decimal c =
    c.all_in.ensures ∙ sym (number_digits c.args.base c.args.word.now c.if-word-eq0.false c.if-word-gt9.false
    ∙ ap (λ (b : Base). every (has (digits b)) c.args.word.now) c.in-Decimal.is)

pub returns-in-Octal : goal.returns-in-Octal
returns-in-Octal c =
    c.all_in-in-Octal.ensures ∙ sym (number_digits c.args.base c.args.word.now c.if-word-eq0.false c.if-word-gt9.false
    ∙ ap (λ (b : Base). every (has (digits b)) c.args.word.now) c.in-Octal.is)
