-- `cell_taken::lowest_free` meets its contract. The loop's invariant stands first; the lemmas of its turns are in
-- this folder's other files. Assumes nothing.
use Rattle.packets.specs.State.{state_in}
use Rattle.cell_taken.proofs.Loops.{pass-turn}
use mathlib.Core.Path.{sym, ◌∙◌}
use native.Mathlib.Omega.{arith}
use borrow.Author.Rules.{rules}
use Rattle.cell_taken.proofs.lowest_free.Goals as goal

pub loop-i-init : goal.loop-i-init
loop-i-init c = record { high = omega arith; source = search rules; none = λ q h. absurd (omega arith) }

pub returns-then-is_empty : goal.returns-then-is_empty
unfolding state_in
returns-then-is_empty c = (omega arith, (sym c.is_empty.ensures ∙ c.if-is_empty.true, c.loop-i.invariant.none))

pub loop-i-preserved : goal.loop-i-preserved
unfolding state_in
loop-i-preserved c =
    pass-turn c.args.jobs c.loop-i.invariant (omega arith) (sym c.is_empty.ensures ∙ c.if-is_empty.false)

pub returns : goal.returns
returns c = λ q h. c.loop-i.invariant.none q (omega arith)
