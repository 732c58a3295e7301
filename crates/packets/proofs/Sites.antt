-- Where packets are: the test of two sites, and what locks and marks leave of the units there. Assumes nothing.
use Prim.Native.Nat.{ℕ}
use mathlib.Core.Path.{◌≡◌, refl, ap, subst}
use mathlib.Core.Bool.{Bool, true, false}
use mathlib.Core.List.{List}
use borrow.Author.Tests.{eqb-true}
use Rattle.numbers.proofs.Tests.{never}
use Rattle.units.specs.State.{marked_unit, unit_in}
use Rattle.units.specs.declared.Mark.{Mark as UnitMark}
use Rattle.units.specs.declared.Mark.TheVariants.{Down, Reserved}
use Rattle.units.specs.declared.Unit.{Unit as UnitState}
use Rattle.packets.proofs.Laws.{eqb-self}
use Rattle.packets.proofs.Store.{unit-keep}
use Rattle.packets.specs.State.{is_unit, same, set_lock, unit_at, with_lock}
use Rattle.packets.specs.declared.Site.{Site}
use Rattle.packets.specs.declared.Site.TheVariants.{AtAddress, AtUnit}

pub same-is : (a b : Site) → same a b ≡ true → a ≡ b
same-is (AtUnit u) (AtUnit v) e = ap (λ (n : ℕ). AtUnit (record { 0 = n })) (eqb-true u.0 v.0 e)
same-is (AtUnit u) (AtAddress y) e = never {b = false} e refl
same-is (AtAddress x) (AtUnit v) e = never {b = false} e refl
same-is (AtAddress x) (AtAddress y) e = ap AtAddress (eqb-true x y e)

same_self : (a : Site) → same a a ≡ true
same_self (AtUnit u) = eqb-self u.0
same_self (AtAddress x) = eqb-self x

pub same-eq : (a b : Site) → a ≡ b → same a b ≡ true
same-eq a b e = subst (λ (x : Site). same a x ≡ true) e (same_self a)

-- only a unit has an interlock
pub locked-unit : (units : List (List UnitState)) (c : ℕ) (a : Site) → (unit_at units c a).interlock ≡ true → is_unit a ≡ true
locked-unit units c (AtUnit u) e = refl
locked-unit units c (AtAddress x) e = e

-- the holders of all units, and so of those at sites
pub holder-at : (units old : List (List UnitState)) → ((c u : ℕ) → (unit_in units c u).holder ≡ (unit_in old c u).holder)
    → (c : ℕ) (a : Site) → (unit_at units c a).holder ≡ (unit_at old c a).holder
holder-at units old e c (AtUnit u) = e c u.0
holder-at units old e c (AtAddress x) = refl

-- an interlock that is set or cleared leaves every holder
pub lock-holder : (units : List (List UnitState)) (c : ℕ) (a : Site) (b : Bool) (d u : ℕ)
    → (unit_in (set_lock units c a b) d u).holder ≡ (unit_in units d u).holder
lock-holder units c (AtUnit w) b d u = unit-keep (λ (v : UnitState). v.holder) units c w.0 (with_lock (unit_in units c w.0) b) d u refl
lock-holder units c (AtAddress x) b d u = refl

-- a mark leaves the interlock
pub mark-lock : (m : UnitMark) (on : Bool) (v : UnitState) → (marked_unit m on v).interlock ≡ v.interlock
mark-lock Down on v = refl
mark-lock Reserved on v = refl
