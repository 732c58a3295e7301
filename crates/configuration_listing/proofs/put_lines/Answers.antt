-- `configuration_listing::put_lines` meets its contract. The loop's invariant is `Goes`: whoever puts the lines that
-- are left has put them all. Assumes nothing.
use mathlib.Core.Path.{ap, ◌∙◌}
use mathlib.Core.List.{List, []}
use native.Mathlib.Omega.{arith}
use lib.ListN.{get_or}
use Rattle.units.specs.declared.Unit.{Unit}
use Rattle.units.specs.declared.Units.{Units}
use Rattle.text.proofs.RoomLaws.{goes-start, goes-turn, goes-end}
use Rattle.configuration_listing.proofs.Lines.{lines-turn, lines_end}
use Rattle.configuration_listing.proofs.put_lines.Goals as goal

pub loop-c-init : goal.loop-c-init
loop-c-init c = (omega arith, goes-start _ _)

pub put_channel-requires : goal.put_channel-requires
put_channel-requires c =
    ap (λ (grid : List (List Unit)). get_or grid c.loop-c.c []) (c.grid_of-grid.ensures.is ∙ ap (λ (units : Units). units.of) c.fresh.ensures)

pub loop-c-preserved : goal.loop-c-preserved
loop-c-preserved c = (
  omega arith,
  goes-turn (rw (lines-turn c.args.configuration c.loop-c.c c.loop-c-test.true) at c.loop-c.invariant.1) c.put_channel.ensures,
)

pub returns : goal.returns
returns c = goes-end (rw (lines_end c.args.configuration c.loop-c.c c.loop-c-test.false) at c.loop-c.invariant.1)
