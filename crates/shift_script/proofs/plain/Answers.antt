-- `shift_script::plain` meets its contract: six blanks are no ID. Assumes nothing.
use mathlib.Core.Path.{refl}
use Rattle.line_words.specs.Forms.{id_of}
use Rattle.shift_script.proofs.plain.Goals as goal

pub returns : goal.returns
unfolding id_of
returns c = refl
