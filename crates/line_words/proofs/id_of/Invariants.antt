-- `line_words::id_of` meets its contract. The loop's invariant: the first i bytes of the word, and blanks. Assumes
-- nothing.
use mathlib.Core.Path.{◌≡◌}
use lib.ListN.{take}
use Rattle.cards_fields.specs.Fields.{padded}
use Rattle.line_words.proofs.id_of.Given as goal

abbrev pub invariant-loop-i : goal.invariant-loop-i
invariant-loop-i l = l.id ≡ padded 6 (take l.i l.word)
