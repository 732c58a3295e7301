-- The loop that counts a channel's assignable units: those below u are counted. Assumes nothing.
use Prim.Native.Nat.{ℕ, ◌+◌, ◌≤◌, ◌<◌}
use mathlib.Core.Path.{◌≡◌, refl, sym, subst}
use mathlib.Core.Bool.{false, cond, ◌&&◌}
use mathlib.Core.List.{List, []}
use native.Mathlib.Numerals.{add-one}
use native.Mathlib.Omega.{arith}
use lib.Dec.{ltb}
use lib.ListN.{get_or}
use borrow.Author.Tests.{le-leb}
use Rattle.numbers.proofs.Order.{at_most_one}
use Rattle.numbers.specs.declared.ChannelNumber.{ChannelNumber}
use Rattle.numbers.specs.declared.UnitNumber.{UnitNumber}
use Rattle.channels.specs.declared.Configuration.{Configuration}
use Rattle.channels.specs.Channels.{units_of, channel_in, has_unit}
use Rattle.units.specs.declared.Unit.{Unit}
use Rattle.units.specs.State.{fresh_unit, unit_in, assignable}
use Rattle.configuration_listing.specs.Listing.{counted, assignable_units}

-- the units of a channel, by its n and their states: of whatever configuration and cell these are
abbrev CountedIn : ℕ → List Unit → ℕ → ℕ → Type 0
CountedIn n row found u =
    (configuration : Configuration) (grid : List (List Unit)) (channel : ChannelNumber) → n ≡ units_of (channel_in configuration channel)
    → row ≡ get_or grid channel.0 [] → found ≡ assignable_units configuration grid channel u

pub record AtUnits (n : ℕ) (row : List Unit) (found u : ℕ) : Type 0 where
  pub within : u ≤ 16
  pub few : found ≤ u
  pub same : CountedIn n row found u

pub units-start : (n : ℕ) (row : List Unit) → AtUnits n row 0 0
unfolding assignable_units
units-start n row = record { within = omega arith; few = omega arith; same = λ configuration grid channel a b. refl }

pub one_at_most : (configuration : Configuration) (grid : List (List Unit)) (channel : ChannelNumber) (unit : UnitNumber)
    → counted configuration grid channel unit ≤ 1
unfolding counted
one_at_most configuration grid channel unit = at_most_one (has_unit configuration channel unit && assignable (unit_in grid channel.0 unit.0))

module _ {n : ℕ} {row : List Unit} {found u : ℕ} (p : AtUnits n row found u) {r : ℕ}
    (e : r ≡ cond (ltb u n && assignable (get_or row u (fresh_unit false))) 1 0) where
  one : r ≤ 1
  one = rw e (at_most_one (ltb u n && assignable (get_or row u (fresh_unit false))))

  pub units-turn : u < 16 → AtUnits n row (found + r) (u + 1)
  unfolding assignable_units counted has_unit unit_in
  units-turn h =
      record {
        within = omega arith;
        few = omega (arith, p.few, one);
        same = λ configuration grid channel a b.
            rw (add-one u, p.same configuration grid channel a b, e, a, b, le-leb u 15 (omega arith)) refl;
      }

  pub units-fits : found + r ≤ 17
  units-fits = omega (arith, p.few, p.within, one)

-- all are counted
pub units-end : {n : ℕ} {row : List Unit} {found u : ℕ} → AtUnits n row found u → 16 ≤ u → CountedIn n row found 16
units-end {n} {row} {found} {u} p h =
    let e : 16 ≡ u = omega (arith, p.within) in subst (CountedIn n row found) (sym e) p.same
