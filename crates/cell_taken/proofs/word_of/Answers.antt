-- `cell_taken::word_of` meets its contract. The loop's invariant stands first; the lemmas of its turns are in this
-- folder's other files. Assumes nothing.
use mathlib.Core.Path.{refl, sym, ◌∙◌}
use native.Mathlib.Omega.{arith}
use Rattle.cell_taken.specs.Taken.{word_from, any_has}
use Rattle.cell_taken.proofs.Loops.{word_small, word-turn, word-all}
use Rattle.cell_taken.proofs.word_of.Goals as goal

pub loop-left-init : goal.loop-left-init
loop-left-init c = record { high = omega arith; is = unfold word_from in refl }

pub overflow_mul-word : goal.overflow_mul-word
overflow_mul-word c = omega (arith, word_small _ c.loop-left.invariant (omega arith))

pub overflow_add-word : goal.overflow_add-word
overflow_add-word c = omega (arith, word_small _ c.loop-left.invariant (omega arith))

pub loop-left-smaller-then-is_taken : goal.loop-left-smaller-then-is_taken
loop-left-smaller-then-is_taken c = omega arith

pub loop-left-preserved-then-is_taken : goal.loop-left-preserved-then-is_taken
loop-left-preserved-then-is_taken c =
    word-turn (any_has c.args.held) c.loop-left.invariant _ (omega arith) (rw (sym c.is_taken.ensures ∙ c.if-is_taken.true) refl)

pub loop-left-smaller : goal.loop-left-smaller
loop-left-smaller c = omega arith

pub loop-left-preserved : goal.loop-left-preserved
loop-left-preserved c =
    word-turn (any_has c.args.held) c.loop-left.invariant _ (omega arith) (rw (sym c.is_taken.ensures ∙ c.if-is_taken.false) (omega arith))

pub returns : goal.returns
returns c = c.loop-left.invariant.is ∙ word-all (any_has c.args.held) c.loop-left.left (omega arith)
