-- `keyboard::is_message` meets its contract: the first word, and whether a word stands past the last. Assumes nothing.
use mathlib.Core.Path.{sym, ◌∙◌}
use Rattle.keyboard.proofs.MessageLaws.{other_word, this-word}
use Rattle.keyboard.proofs.is_message.Goals as goal

pub returns-then-eq : goal.returns-then-eq
returns-then-eq c =
    c.is_empty.ensures
    ∙ this-word c.args.message.now c.args.mc.now c.word_at.result.now c.args.most c.word_at.ensures
    (sym c.eq.ensures ∙ c.if-eq.true) c.word_at-then-eq.result.now c.word_at-then-eq.ensures

pub returns-else-eq : goal.returns-else-eq
returns-else-eq c =
    c.if-eq.false
    ∙ other_word c.args.message.now c.args.mc.now c.word_at.result.now c.args.most c.word_at.ensures
    (sym c.eq.ensures ∙ c.if-eq.false)
