-- The calls on the request lists by plain numbers, as the laws of numbers speak of them. Assumes nothing.
use Prim.Native.Nat.{ℕ}
use mathlib.Core.Bool.{Bool}
use Rattle.units.specs.declared.Mark.{Mark as UnitMark}
use Rattle.packets.specs.Rules.{Call, Do}
use Rattle.packets.specs.declared.Act.TheVariants as Act'
use Rattle.packets.specs.declared.How.{How}
use Rattle.packets.specs.declared.Spot.{Spot}

abbrev pub Submit : ℕ → ℕ → ℕ → ℕ → Spot → Call
Submit j p f c w = Do (Act'.Submit j p f (record { 0 = c }) w)

abbrev pub Start : ℕ → Call
Start c = Do (Act'.Start (record { 0 = c }))

abbrev pub Complete : ℕ → How → Call
Complete c how = Do (Act'.Complete (record { 0 = c }) how)

abbrev pub End : ℕ → Bool → Call
End j e = Do (Act'.End j e)

abbrev pub Return : ℕ → ℕ → ℕ → Call
Return j c u = Do (Act'.Return j (record { 0 = c }) (record { 0 = u }))

abbrev pub Mark : ℕ → ℕ → UnitMark → Bool → Call
Mark c u m on = Do (Act'.Mark (record { 0 = c }) (record { 0 = u }) m on)
