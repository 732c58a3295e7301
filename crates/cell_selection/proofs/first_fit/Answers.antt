-- `cell_selection::first_fit` meets its contract: the loop keeps that the candidates so far have no assignment, and
-- what the first of them lacks. Assumes nothing.
use Prim.Native.Nat.{◌+◌}
use mathlib.Core.Path.{sym, subst, ◌∙◌}
use native.Mathlib.Omega.{arith}
use lib.ListN.{take}
use Rattle.schedule_list.proofs.Full.{full}
use Rattle.assign.specs.Assignment.{supply_of}
use Rattle.cell_selection.specs.declared.Noted.{Noted}
use Rattle.cell_selection.proofs.Walk.{Walked, told, few, walk_start, walk-found, walk-next, walk-on, walk_end}
use Rattle.cell_selection.proofs.first_fit.Goals as goal
use Rattle.cell_selection.proofs.first_fit.Goals.{then-may-k+in-Some, else-may-k}

pub loop-k-init : goal.loop-k-init
loop-k-init c = walk_start _ _

pub bounds-may-k : goal.bounds-may-k
bounds-may-k c = omega (arith, few c.args.schedule (full c.args.schedule _ c.well_formed.0) c.size-n.ensures c.all-may.ensures (supply_of c.args.units.of c.args.occupancy c.args.areas c.args.channels))

pub offset_bounds-list-k : goal.offset_bounds-list-k
offset_bounds-list-k c = omega (arith, few c.args.schedule (full c.args.schedule _ c.well_formed.0) c.size-n.ensures c.all-may.ensures (supply_of c.args.units.of c.args.occupancy c.args.areas c.args.channels))

pub bounds-list-k : goal.bounds-list-k
bounds-list-k c = omega (arith, few c.args.schedule (full c.args.schedule _ c.well_formed.0) c.size-n.ensures c.all-may.ensures (supply_of c.args.units.of c.args.occupancy c.args.areas c.args.channels))

pub returns-in_default : goal.returns-in_default
returns-in_default c =
    walk-found c.args.schedule (full c.args.schedule _ c.well_formed.0) c.size-n.ensures c.all-may.ensures
    (supply_of c.args.units.of c.args.occupancy c.args.areas c.args.channels) c.loop-k.so_far c.loop-k.invariant (omega (arith, c)) _ c.if-may-k.true
    (told c.args.units.of c.args.occupancy c.args.areas c.args.channels _ c.count-counts.result (omega (arith, c.well_formed)) c.count-counts.ensures
    c.drum_length-drum.ensures c.first_lacking-lacking.ensures c.in_default.is)
    c.assign-given.result c.assign-given.ensures c.picked.result c.picked.ensures

pub loop-k-preserved : goal.loop-k-preserved
loop-k-preserved c =
    elim c.if-may-k.branch [
      | then-may-k+in-Some w ↦
          walk-next c.args.schedule (full c.args.schedule _ c.well_formed.0) c.size-n.ensures c.all-may.ensures (supply_of c.args.units.of c.args.occupancy c.args.areas c.args.channels) c.loop-k.so_far c.loop-k.invariant
          (omega (arith, c)) _ w.if-may-k.true w.in-Some.part
          (told c.args.units.of c.args.occupancy c.args.areas c.args.channels _ c.count-counts.result (omega (arith, c))
          c.count-counts.ensures c.drum_length-drum.ensures w.first_lacking-lacking.ensures w.in-Some.is)
          c.if-may-k.so_far (w.so_far-is ∙ w.note-so_far.ensures)
      | else-may-k w ↦
          subst (λ (x : Noted). Walked (take c.size-n.result c.args.schedule.entries) (supply_of c.args.units.of c.args.occupancy c.args.areas c.args.channels) x.lacking x.at (c.loop-k.k + 1))
          (sym w.so_far-is)
          (walk-on c.args.schedule (full c.args.schedule _ c.well_formed.0) c.size-n.ensures c.all-may.ensures (supply_of c.args.units.of c.args.occupancy c.args.areas c.args.channels) c.loop-k.so_far c.loop-k.invariant
          (omega (arith, c)) w.if-may-k.false)
    ]

pub returns : goal.returns
returns c =
    walk_end c.args.schedule (full c.args.schedule _ c.well_formed.0) c.size-n.ensures c.all-may.ensures
    (supply_of c.args.units.of c.args.occupancy c.args.areas c.args.channels) c.loop-k.so_far c.loop-k.invariant (omega arith)
    c.none_picked.result c.none_picked.ensures
