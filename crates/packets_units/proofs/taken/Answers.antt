-- `packets_units::taken` meets its contract. The invariant: the units passed are changed, the others as they were.
-- Assumes nothing.
use mathlib.Core.Bool.{Bool, ◌&&◌}
use Prim.Native.Nat.{ℕ, ◌+◌, ◌/◌, ◌%◌, ◌<◌}
use lib.ListN.{length}
use borrow.Author.Rules.{rules}
use mathlib.Core.Path.{◌≡◌, sym, ap, subst, ◌∙◌}
use native.Mathlib.Omega.{arith}
use Rattle.units.specs.declared.Unit.{Unit}
use Rattle.units.specs.declared.Units.{Units}
use Rattle.units.specs.State.{unit_in, units_from, Square, assignable}
use Rattle.units.proofs.EachUnit.{Passed, passed_none, passed-set, passed-left, passed-all}
use Rattle.units.proofs.StateLaws.{of-square}
use Rattle.packets.specs.State.{take_unit, take_all}
use Rattle.packets.proofs.UnitLaws.{take-square, take-read}
use Rattle.packets_units.specs.Handed.{wanted_in}
use Rattle.packets_units.proofs.HandedLaws.{taken_here, taken_not, wanted-is}
use mathlib.Core.List.{List}
use Rattle.packets_units.proofs.taken.Goals as goal
use Rattle.packets_units.proofs.taken.Goals.{then-is_taken, else-is_taken}

pub loop-i-init : goal.loop-i-init
loop-i-init c =
    let f : ℕ → ℕ → Unit → Unit = (λ (d u : ℕ) (v : Unit). take_unit c.args.j (wanted_in c.args.wanted d u) v) in
    subst (λ (g : List (List Unit)). Passed f g c.args.units.of 0) (sym c.grid_of-grid.ensures.is)
    (passed_none f c.args.units.of (of-square c.grid_of-grid.ensures))

pub loop-i-preserved : goal.loop-i-preserved
unfolding unit_in
loop-i-preserved c =
    let unit = unit_in c.grid_of-grid.result (c.loop-i.i / 16) (c.loop-i.i % 16) in
    let w : Bool = wanted_in c.args.wanted (c.loop-i.i / 16) (c.loop-i.i % 16) in
    let t : (w && assignable unit) ≡ c.is_taken.result = ap (λ (b : Bool). b && assignable unit) (sym (wanted-is c.args.wanted c.loop-i.i)) ∙ sym c.is_taken.ensures in
    let f : ℕ → ℕ → Unit → Unit = (λ (d u : ℕ) (v : Unit). take_unit c.args.j (wanted_in c.args.wanted d u) v) in
    let size : length c.args.wanted ≡ 256 = search rules in
    let small : c.loop-i.i < 256 = omega (arith, c.loop-i-test.true) in
    elim c.if-is_taken.branch [
      | then-is_taken v ↦ subst (λ (n : Units). Passed f c.grid_of-grid.result n.of (c.loop-i.i + 1)) (sym (v.next-is ∙ v.with_unit-next.ensures))
          (passed-set f c.grid_of-grid.result c.loop-i.next.of c.loop-i.i c.loop-i.invariant small _ (taken_here unit c.args.j w (t ∙ v.if-is_taken.true)))
      | else-is_taken v ↦ subst (λ (n : Units). Passed f c.grid_of-grid.result n.of (c.loop-i.i + 1)) (sym v.next-is)
          (passed-left f c.grid_of-grid.result c.loop-i.next.of c.loop-i.i c.loop-i.invariant small (taken_not unit c.args.j w (t ∙ v.if-is_taken.false)))
    ]

pub returns : goal.returns
returns c =
    let f : ℕ → ℕ → Unit → Unit = (λ (d u : ℕ) (v : Unit). take_unit c.args.j (wanted_in c.args.wanted d u) v) in
    let square : Square c.args.units.of = of-square c.grid_of-grid.ensures in
    let size : length c.args.wanted ≡ 256 = search rules in
    let P : Passed f c.args.units.of c.loop-i.next.of c.loop-i.i =
    subst (λ (g : List (List Unit)). Passed f g c.loop-i.next.of c.loop-i.i) c.grid_of-grid.ensures.is c.loop-i.invariant in
    ap units_from (passed-all f c.args.units.of c.loop-i.next.of (take_all c.args.units.of c.args.j (wanted_in c.args.wanted)) c.loop-i.i
    (omega (arith, c.loop-i-test.false)) P (take-square c.args.units.of c.args.j (wanted_in c.args.wanted) square) (take-read c.args.units.of c.args.j (wanted_in c.args.wanted) square))
