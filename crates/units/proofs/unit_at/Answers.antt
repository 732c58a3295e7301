-- `units::unit_at` meets its contract: the state's own entry, or what stands for a unit where the cell has
-- none. Assumes nothing.
use mathlib.Core.Path.{sym, refl, ◌∙◌}
use Rattle.units.specs.State.{unit_in}
use Rattle.units.proofs.StateLaws.{of-square, read_past, read-beside}
use Rattle.units.proofs.unit_at.Goals as goal
use Rattle.units.proofs.unit_at.Goals.{else-channel-lt16-via-then-channel-lt16+else-unit-lt16, else-channel-lt16-via-else-channel-lt16}

pub returns-then-unit-lt16 : goal.returns-then-unit-lt16
unfolding unit_in
returns-then-unit-lt16 c = rw c.grid_of-grid.ensures.is refl

pub returns-else-channel-lt16 : goal.returns-else-channel-lt16
returns-else-channel-lt16 c =
    c.fresh_unit.ensures ∙ sym (elim c.else-channel-lt16.branch [
      | else-channel-lt16-via-then-channel-lt16+else-unit-lt16 w ↦ read-beside c.args.units.of (of-square c.grid_of-grid.ensures) c.args.channel.0 c.args.unit.0 w.if-channel-lt16.true w.if-unit-lt16.false
      | else-channel-lt16-via-else-channel-lt16 w ↦ read_past c.args.units.of (of-square c.grid_of-grid.ensures) c.args.channel.0 c.args.unit.0 w.if-channel-lt16.false
    ])
