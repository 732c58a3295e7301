-- A kind's units in an assignment, unit u of channel c at c * 16 + u, and which are chosen. A reader has to believe
-- this page.
use Rattle.std.specs.Prelude.{ℕ, ◌≤◌, ◌<◌, ◌/◌, ◌≡◌, Bool, true, false, eqb, Option, Some, None}
use Rattle.numbers.specs.declared.LogicalChannel.{LogicalChannel}
use Rattle.assign_heads.specs.Sums.{how_many}

-- a unit is given to the entry with logical channel l
abbrev pub is_to : ℕ → Option LogicalChannel → Bool
is_to l None = false
is_to l (Some m) = eqb m.0 l

-- a unit is given to some entry
abbrev pub is_given : Option LogicalChannel → Bool
is_given None = false
is_given (Some m) = true

-- The units of a kind's entries. `want l` is what the entry with logical channel l asks for, 0 where there is none, and
-- `on l` its channel. `free i` says that unit i is of the kind and assignable, and `to i` to which entry it is given.
pub record Served (free : ℕ → Bool) (want on : ℕ → ℕ) (to : ℕ → Option LogicalChannel) : Type 0 where
  -- only assignable units of the kind
  pub only : (i : ℕ) → is_given (to i) ≡ true → free i ≡ true
  -- every entry has the units that it asks for
  pub all : (l : ℕ) → l < 16 → how_many 256 (λ i. is_to l (to i)) ≡ want l
  -- and no logical channel past 15 has any
  pub known : (i l : ℕ) → 16 ≤ l → is_to l (to i) ≡ true → ⊥
  -- one with logical channel 1-15 has all its units on its channel
  pub there : (i l : ℕ) → 1 ≤ l → is_to l (to i) ≡ true → i / 16 ≡ on l
  -- a channel of its own
  pub own : (l m : ℕ) → 1 ≤ l → l < m → m < 16 → 1 ≤ want l → 1 ≤ want m → on l ≡ on m → ⊥
  -- no channel is named, 0 stands there, for logical channel 0 and for one without entry
  pub none-0 : on 0 ≡ 0
  pub none : (l : ℕ) → 1 ≤ l → l < 16 → want l ≡ 0 → on l ≡ 0

-- The units chosen, once the channels are.
pub record Lowest (free : ℕ → Bool) (to : ℕ → Option LogicalChannel) : Type 0 where
  -- lowest units on each: one with logical channel 1-15 passes over no assignable unit of its channel
  pub units : (j i l : ℕ) → j < i → 1 ≤ l → is_to l (to i) ≡ true → j / 16 ≡ i / 16 → free j ≡ true → is_to l (to j) ≡ true
  -- then logical 0 takes the lowest remaining channel and unit numbers: it passes over no remaining unit
  pub rest : (j i : ℕ) → j < i → is_to 0 (to i) ≡ true → free j ≡ true → is_given (to j) ≡ true
