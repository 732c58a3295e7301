-- A unit in other hands, a unit where a packet is, and the units that an assignment wants. Nothing here has to be
-- believed: State of packets says what comes out.
use Rattle.std.specs.Prelude.{ℕ, ◌+◌, ◌*◌, Bool, false, List, get_or}
use Rattle.units.specs.declared.Unit.{Unit as UnitState}
use Rattle.units.specs.declared.Holder.{Holder}
use Rattle.units.specs.State.{unit_set}
use Rattle.packets.specs.declared.Site.{Site}
use Rattle.packets.specs.declared.Site.TheVariants.{AtAddress, AtUnit}

-- the unit held by another, or free, its interlock set or not
abbrev pub handed_to : UnitState → Holder → Bool → UnitState
handed_to v h b = record { holder = h; down = v.down; reserved = v.reserved; interlock = b }

-- the unit at a on channel c in another state; the drum has none
abbrev pub state_set : List (List UnitState) → ℕ → Site → UnitState → List (List UnitState)
state_set units c (AtUnit u) v = unit_set units c u.0 v
state_set units c (AtAddress x) v = units

-- unit u of channel c is wanted
abbrev pub wanted_in : List Bool → ℕ → ℕ → Bool
wanted_in wanted c u = get_or wanted (c * 16 + u) false
