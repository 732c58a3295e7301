-- `packets_queue::row_of` meets its contract. Assumes nothing.
use Rattle.std.proofs.Common.{rules, ◌≡◌, ◌∙◌, ap, get_or, replicate, List, false, arith}
use Rattle.units.specs.declared.Unit.{Unit}
use Rattle.units.specs.State.{fresh_unit}
use Rattle.units.proofs.StateLaws.{of-square}
use Rattle.packets_queue.proofs.Startable.{row-of, row_out}
use Rattle.packets_queue.proofs.row_of.Goals as goal

pub returns-in-Some : goal.returns-in-Some
returns-in-Some c =
    let is : c.in-Some.row.now ≡ get_or c.grid_of-grid.result c.args.c.0 (replicate 16 (fresh_unit false)) = search rules in
    row-of c.args.units.of (of-square c.grid_of-grid.ensures) c.args.c.0 c.in-Some.row.now
    (is ∙ ap (λ (g : List (List Unit)). get_or g c.args.c.0 (replicate 16 (fresh_unit false))) c.grid_of-grid.ensures.is)

pub returns-in-None : goal.returns-in-None
returns-in-None c =
    row_out c.args.units.of (of-square c.grid_of-grid.ensures) c.args.c.0
    (omega (arith, c.in-None.ensures.lookup, c.grid_of-grid.ensures.square.channels)) _ (rw c.fresh_unit.ensures)
