-- `configuration_units::fresh` meets its contract. The loop's invariant is `Filled` of proofs/Filling.antt.
-- Assumes nothing.
use Prim.Native.Nat.{◌+◌}
use mathlib.Core.Path.{sym, ap, subst, ◌∙◌}
use mathlib.Core.List.{List}
use Rattle.units.specs.declared.Unit.{Unit}
use Rattle.units.specs.declared.Units.{Units}
use Rattle.units.specs.State.{units_from, unit_set}
use Rattle.configuration_units.proofs.Filling.{Filled, fill_start, fill-down, fill-up, fill_end}
use Rattle.configuration_units.proofs.fresh.Goals as goal
use Rattle.configuration_units.proofs.fresh.Goals.{then-is_down, else-is_down}

pub loop-i-init : goal.loop-i-init
loop-i-init c =
    fill_start c.args.configuration.down
    (c.grid_of-grid.ensures.is ∙ ap (λ (units : Units). units.of) c.none_held.ensures)

pub loop-i-preserved : goal.loop-i-preserved
unfolding unit_set
loop-i-preserved c =
    elim c.if-is_down.branch [
      | then-is_down w ↦ subst (λ (g : List (List Unit)). Filled c.args.configuration.down g (c.loop-i.i + 1)) (sym w.grid-is)
          (fill-down c.loop-i.invariant c.loop-i-test.true w.if-is_down.true w.fresh_unit.ensures)
      | else-is_down w ↦ subst (λ (g : List (List Unit)). Filled c.args.configuration.down g (c.loop-i.i + 1)) (sym w.grid-is)
          (fill-up c.loop-i.invariant c.loop-i-test.true w.if-is_down.false)
    ]

pub returns : goal.returns
returns c = c.units_from.ensures ∙ ap units_from (fill_end c.loop-i.invariant c.loop-i-test.false)
