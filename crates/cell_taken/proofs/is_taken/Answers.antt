-- `cell_taken::is_taken` meets its contract. The loop's invariant stands first; the lemmas of its turns are in this
-- folder's other files. Assumes nothing.
use mathlib.Core.Path.{refl, sym, ◌∙◌}
use native.Mathlib.Omega.{arith}
use Rattle.packets.specs.State.{no_core}
use Rattle.packets.specs.declared.Core.{Core}
use Rattle.cell_taken.specs.Taken.{in_blocks}
use Rattle.cell_taken.proofs.Loops.{look-turn, look_hit, look-end}
use borrow.Author.Rules.{rules}
use Rattle.cell_taken.proofs.is_taken.Goals as goal

pub loop-i-init : goal.loop-i-init
loop-i-init c = (omega arith, search rules, refl)

pub returns-then-is_in_core : goal.returns-then-is_in_core
returns-then-is_in_core c =
    sym (look_hit (λ (core : Core). in_blocks core c.args.b) no_core c.args.held c.loop-i.i (omega (arith, c.loop-i.invariant.1))
    (sym c.is_in_core.ensures ∙ c.if-is_in_core.true) c.loop-i.invariant.2)

pub loop-i-preserved : goal.loop-i-preserved
loop-i-preserved c = (
  omega arith,
  c.loop-i.invariant.1,
  look-turn (λ (core : Core). in_blocks core c.args.b) no_core c.args.held c.loop-i.i (omega (arith, c.loop-i.invariant.1))
      (sym c.is_in_core.ensures ∙ c.if-is_in_core.false) c.loop-i.invariant.2,
)

pub returns : goal.returns
returns c =
    sym (look-end (λ (core : Core). in_blocks core c.args.b) no_core c.args.held c.loop-i.i (omega (arith, c.loop-i.invariant.1)) c.loop-i.invariant.2)
