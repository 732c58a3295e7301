-- `packets_units::released` meets its contract. The invariant: the units passed are changed, the others as they
-- were. Assumes nothing.
use Prim.Native.Nat.{ℕ, ◌+◌, ◌/◌, ◌%◌, ◌<◌}
use mathlib.Core.Path.{sym, ap, subst, ◌∙◌}
use native.Mathlib.Omega.{arith}
use Rattle.units.specs.declared.Unit.{Unit}
use Rattle.units.specs.declared.Units.{Units}
use Rattle.units.specs.State.{unit_in, units_from, Square}
use Rattle.units.proofs.EachUnit.{Passed, passed_none, passed-set, passed-left, passed-all}
use Rattle.units.proofs.StateLaws.{of-square}
use Rattle.packets.specs.State.{release, release_all}
use Rattle.packets.proofs.Store.{unit-release}
use Rattle.packets.proofs.UnitLaws.{release-square}
use Rattle.packets_units.proofs.HandedLaws.{released-here, released-not}
use mathlib.Core.List.{List}
use Rattle.packets_units.proofs.released.Goals as goal
use Rattle.packets_units.proofs.released.Goals.{then-is_held_by, else-is_held_by}

pub loop-i-init : goal.loop-i-init
loop-i-init c =
    let f : ℕ → ℕ → Unit → Unit = (λ (d u : ℕ) (v : Unit). release c.args.j v) in
    subst (λ (g : List (List Unit)). Passed f g c.args.units.of 0) (sym c.grid_of-grid.ensures.is)
    (passed_none f c.args.units.of (of-square c.grid_of-grid.ensures))

pub loop-i-preserved : goal.loop-i-preserved
unfolding unit_in
loop-i-preserved c =
    let unit = unit_in c.grid_of-grid.result (c.loop-i.i / 16) (c.loop-i.i % 16) in
    let f : ℕ → ℕ → Unit → Unit = (λ (d u : ℕ) (v : Unit). release c.args.j v) in
    let small : c.loop-i.i < 256 = omega (arith, c.loop-i-test.true) in
    elim c.if-is_held_by.branch [
      | then-is_held_by v ↦ subst (λ (n : Units). Passed f c.grid_of-grid.result n.of (c.loop-i.i + 1)) (sym (v.next-is ∙ v.with_unit-next.ensures))
          (passed-set f c.grid_of-grid.result c.loop-i.next.of c.loop-i.i c.loop-i.invariant small _
          (released-here unit c.args.j (sym c.is_held_by.ensures ∙ v.if-is_held_by.true)))
      | else-is_held_by v ↦ subst (λ (n : Units). Passed f c.grid_of-grid.result n.of (c.loop-i.i + 1)) (sym v.next-is)
          (passed-left f c.grid_of-grid.result c.loop-i.next.of c.loop-i.i c.loop-i.invariant small (released-not unit c.args.j (sym c.is_held_by.ensures ∙ v.if-is_held_by.false)))
    ]

pub returns : goal.returns
returns c =
    let f : ℕ → ℕ → Unit → Unit = (λ (d u : ℕ) (v : Unit). release c.args.j v) in
    let square : Square c.args.units.of = of-square c.grid_of-grid.ensures in
    let P : Passed f c.args.units.of c.loop-i.next.of c.loop-i.i =
    subst (λ (g : List (List Unit)). Passed f g c.loop-i.next.of c.loop-i.i) c.grid_of-grid.ensures.is c.loop-i.invariant in
    ap units_from (passed-all f c.args.units.of c.loop-i.next.of (release_all c.args.units.of c.args.j) c.loop-i.i (omega (arith, c.loop-i-test.false)) P
    (release-square c.args.units.of c.args.j square) (λ d u h k. unit-release c.args.units.of c.args.j d u))
