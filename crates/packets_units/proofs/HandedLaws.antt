-- A unit that is released or taken is the unit in other hands, and one that is not stays as it is. Assumes nothing.
use Prim.Native.Nat.{ℕ, ◌/◌, ◌%◌}
use mathlib.Core.Path.{◌≡◌, refl, ap}
use mathlib.Core.Bool.{Bool, true, false, ◌&&◌}
use mathlib.Core.List.{List}
use native.Mathlib.Omega.{arith}
use lib.ListN.{get_or}
use Rattle.units.specs.declared.Holder.{Holder}
use Rattle.units.specs.declared.Holder.TheVariants.{Free, Held}
use Rattle.units.specs.declared.Unit.{Unit as UnitState}
use Rattle.units.specs.State.{assignable}
use Rattle.packets.specs.State.{held_by, release, set_holder, set_lock, take_unit, unit_at}
use Rattle.packets.specs.declared.Site.{Site}
use Rattle.packets.specs.declared.Site.TheVariants.{AtAddress, AtUnit}
use Rattle.packets_units.specs.Handed.{handed_to, state_set, wanted_in}

pub released-here : (v : UnitState) (j : ℕ) → held_by v.holder j ≡ true → handed_to v Free v.interlock ≡ release j v
released-here v j e = rw e

pub released-not : (v : UnitState) (j : ℕ) → held_by v.holder j ≡ false → v ≡ release j v
released-not v j e = rw e

pub taken_here : (v : UnitState) (j : ℕ) (w : Bool) → (w && assignable v) ≡ true → handed_to v (Held j) false ≡ take_unit j w v
taken_here v j w e = rw e

pub taken_not : (v : UnitState) (j : ℕ) (w : Bool) → (w && assignable v) ≡ false → v ≡ take_unit j w v
taken_not v j w e = rw e

-- an interlock set or cleared, or another holder, is another state of the unit there
pub locked-as : (units : List (List UnitState)) (c : ℕ) (a : Site) (b : Bool)
    → state_set units c a (handed_to (unit_at units c a) (unit_at units c a).holder b) ≡ set_lock units c a b
locked-as units c (AtUnit u) b = refl
locked-as units c (AtAddress x) b = refl

pub held-as : (units : List (List UnitState)) (c : ℕ) (a : Site) (h : Holder)
    → state_set units c a (handed_to (unit_at units c a) h (unit_at units c a).interlock) ≡ set_holder units c a h
held-as units c (AtUnit u) h = refl
held-as units c (AtAddress x) h = refl

-- unit i is unit i / 16, i % 16
pub wanted-is : (wanted : List Bool) (i : ℕ) → get_or wanted i false ≡ wanted_in wanted (i / 16) (i % 16)
wanted-is wanted i = ap (λ (n : ℕ). get_or wanted n false) (omega arith)
