-- `units::with_unit` meets its contract: the one store, and nothing changes where the cell has no such unit.
-- Assumes nothing.
use mathlib.Core.Path.{sym, ap}
use Rattle.units.specs.State.{units_from, unit_set}
use Rattle.units.proofs.StateLaws.{of-square, set_past, set-beside}
use Rattle.units.proofs.with_unit.Goals as goal
use Rattle.units.proofs.with_unit.Goals.{else-c-lt16-via-then-c-lt16+else-u-lt16, else-c-lt16-via-else-c-lt16}

pub returns-then-u-lt16 : goal.returns-then-u-lt16
unfolding unit_set
returns-then-u-lt16 c = cc

pub returns-else-c-lt16 : goal.returns-else-c-lt16
returns-else-c-lt16 c =
    sym (ap units_from (elim c.else-c-lt16.branch [
      | else-c-lt16-via-then-c-lt16+else-u-lt16 w ↦ set-beside c.args.units.of (of-square c.grid_of-next.ensures) c.args.channel.0 c.args.unit.0 c.args.state w.if-c-lt16.true w.if-u-lt16.false
      | else-c-lt16-via-else-c-lt16 w ↦ set_past c.args.units.of (of-square c.grid_of-next.ensures) c.args.channel.0 c.args.unit.0 c.args.state w.if-c-lt16.false
    ]))
