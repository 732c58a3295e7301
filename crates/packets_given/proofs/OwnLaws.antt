-- Where a packet is, is its job's own: from who holds its unit, or from its job's area. Assumes nothing.
use Prim.Native.Nat.{ℕ}
use mathlib.Core.Path.{◌≡◌, refl}
use mathlib.Core.Bool.{true}
use Rattle.numbers.specs.declared.UnitNumber.{UnitNumber}
use Rattle.units.specs.State.{unit_in}
use Rattle.packets.specs.Rules.{in_area}
use Rattle.packets.specs.State.{State, held_by, job_in}
use Rattle.packets.specs.declared.Site.{Site}
use Rattle.packets.specs.declared.Site.TheVariants.{AtAddress, AtUnit}
use Rattle.packets_given.specs.Given.{IsOwn}

-- a unit that is held, or an address of the job's area
pub is-own : (s : State) (j c : ℕ) (a : Site) → ((u : UnitNumber) → a ≡ AtUnit u → held_by (unit_in s.units c u.0).holder j ≡ true)
    → ((x : ℕ) → a ≡ AtAddress x → in_area (job_in s.jobs j) x ≡ true) → IsOwn s j c a
is-own s j c (AtUnit u) f g = f u refl
is-own s j c (AtAddress x) f g = g x refl
