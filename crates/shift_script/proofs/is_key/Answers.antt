-- `shift_script::is_key` meets its contract: the word alone, or in front. Assumes nothing.
use Rattle.std.proofs.Common.{◌∙◌}
use Rattle.shift_script.proofs.KeyLaws.{key-alone, key-front}
use Rattle.shift_script.proofs.is_key.Goals as goal

pub returns-then-eq : goal.returns-then-eq
returns-then-eq c = c.if-eq.true ∙ key-alone c.args.line.now (rw c.as_slice.ensures at c.if-eq.ensures)

pub returns-else-eq : goal.returns-else-eq
returns-else-eq c = c.starts_with.ensures.value ∙ key-front c.args.line.now (rw c.as_slice.ensures at c.if-eq.ensures)
