-- The fresh cell's units.
use Rattle.std.specs.Prelude.{◌+◌, ◌*◌, Bool, false, List, get_or}
use Rattle.numbers.specs.Values.{values}
use Rattle.units.specs.declared.Unit.{Unit}
use Rattle.units.specs.State.{fresh_unit}

-- every unit is free, down where it is listed so (unit u of channel c at c * 16 + u), and not marked otherwise
unfoldable pub fresh_units : List Bool → List (List Unit)
fresh_units down = values 16 (λ c. values 16 (λ u. fresh_unit (get_or down (c * 16 + u) false)))
