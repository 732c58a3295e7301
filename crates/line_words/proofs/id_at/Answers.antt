-- `line_words::id_at` meets its contract: the word as an ID. Assumes nothing.
use mathlib.Core.Path.{ap, ◌∙◌}
use Rattle.line_words.specs.Forms.{id_of}
use Rattle.line_words.proofs.id_at.Goals as goal

pub returns : goal.returns
returns c = c.id_of.ensures ∙ ap id_of c.word_at.ensures
