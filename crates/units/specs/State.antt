-- The state of all units: an array of channels, each an array of units.
use Rattle.std.specs.Prelude.{ℕ, ◌<◌, ◌≡◌, Bool, true, false, not, ◌&&◌, List, [], length, get_or, set, replicate}
use Rattle.units.specs.declared.Holder.{Holder}
use Rattle.units.specs.declared.Holder.TheVariants.{Free, Held, Returning}
use Rattle.units.specs.declared.Unit.{Unit}
use Rattle.units.specs.declared.Mark.{Mark}
use Rattle.units.specs.declared.Mark.TheVariants.{Down, Reserved}
use Rattle.units.specs.declared.Units.{Units}

-- 16 channels of 16 units
pub record Square (grid : List (List Unit)) : Type 0 where
  pub channels : length grid ≡ 16
  pub units : (c : ℕ) → c < 16 → length (get_or grid c []) ≡ 16

-- the state whose channels are these
abbrev pub units_from : List (List Unit) → Units
units_from grid = record { of = grid }

-- the channels of a state
pub record GridOf (units : Units) (grid : List (List Unit)) : Type 0 where
  pub is : grid ≡ units.of
  pub square : Square grid

-- a unit that is free and not marked, down apart
abbrev pub fresh_unit : Bool → Unit
fresh_unit down = record { holder = Free; down = down; reserved = false; interlock = false }

-- all units free and unmarked
abbrev pub none_held : List (List Unit)
none_held = replicate 16 (replicate 16 (fresh_unit false))

-- unit u of channel c; no unit of the cell: free and unmarked
unfoldable pub unit_in : List (List Unit) → ℕ → ℕ → Unit
unit_in grid c u = get_or (get_or grid c []) u (fresh_unit false)

-- the state with unit u of channel c changed to `unit`; no unit of the cell: nothing changes
unfoldable pub unit_set : List (List Unit) → ℕ → ℕ → Unit → List (List Unit)
unit_set grid c u unit = set grid c (set (get_or grid c []) u unit)

-- a unit is free or held by one job
abbrev pub is_free : Holder → Bool
is_free Free = true
is_free (Held place) = false
is_free (Returning place) = false

-- a unit that a job holds may be being returned; a free one never is (02, request 5)
abbrev pub is_returning : Holder → Bool
is_returning Free = false
is_returning (Held place) = false
is_returning (Returning place) = true

-- a unit is assignable when free and unmarked
unfoldable pub assignable : Unit → Bool
assignable unit = not unit.down && (not unit.reserved && is_free unit.holder)

-- a unit with one mark set or cleared, all else as it was
abbrev pub marked_unit : Mark → Bool → Unit → Unit
marked_unit Down on unit = record { holder = unit.holder; down = on; reserved = unit.reserved; interlock = unit.interlock }
marked_unit Reserved on unit = record { holder = unit.holder; down = unit.down; reserved = on; interlock = unit.interlock }
