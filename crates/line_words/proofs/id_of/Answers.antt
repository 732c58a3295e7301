-- `line_words::id_of` meets its contract. The loop's invariant: the first i bytes of the word, and blanks. Assumes
-- nothing.
use mathlib.Core.Path.{sym, ap, ◌∙◌}
use lib.Seq.{take_all}
use Rattle.cards_fields.specs.Fields.{padded}
use Rattle.line_words.proofs.FormLaws.{id-long, id-short, id-step}
use Rattle.line_words.proofs.id_of.Goals as goal

pub returns-then-word-gt6 : goal.returns-then-word-gt6
returns-then-word-gt6 c = sym (id-long c.args.word.now c.if-word-gt6.true)

pub loop-i-preserved : goal.loop-i-preserved
loop-i-preserved c =
    rw c.loop-i.invariant (id-step c.args.word.now c.loop-i.i c.loop-i-test.true)

pub returns : goal.returns
returns c =
    c.loop-i.invariant ∙ ap (padded 6) (take_all c.loop-i.i c.args.word.now c.loop-i-test.false)
    ∙ sym (id-short c.args.word.now c.if-word-gt6.false)
