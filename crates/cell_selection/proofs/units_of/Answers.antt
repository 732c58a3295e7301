-- `cell_selection::units_of` meets its contract. The loop's invariant is `Filled` of numbers. Assumes nothing.
use mathlib.Core.Bool.{false}
use mathlib.Core.Path.{refl}
use native.Mathlib.Omega.{arith}
use lib.ListN.{get_or}
use Rattle.numbers.proofs.Stores.{fill-turn, fill-map}
use Rattle.assign_heads.specs.Whose.{blank}
use Rattle.cell_selection.specs.Selecting.{is_taken}
use borrow.Author.Rules.{rules}
use Rattle.cell_selection.proofs.units_of.Goals as goal

pub loop-i-init : goal.loop-i-init
loop-i-init c = record { high = omega arith; wide = search rules; each = λ d h. absurd (omega arith); rest = λ d h. refl }

pub loop-i-smaller : goal.loop-i-smaller
loop-i-smaller c = omega arith

pub loop-i-preserved : goal.loop-i-preserved
loop-i-preserved c =
    fill-turn (λ d. is_taken (get_or c.args.heads d blank)) false 256 _ c.loop-i.invariant (omega arith) c.is_taken.result c.is_taken.ensures

pub returns : goal.returns
returns c =
    fill-map is_taken blank false 256 _ c.loop-i.next c.args.heads refl (search rules) c.loop-i.invariant (omega arith)
