-- Core: 32 blocks of 2,048 words; 2 to 29 are assignable, the rest the executive's. What a job's core is, and which
-- is chosen. A reader has to believe this page.
use Rattle.std.specs.Prelude.{ℕ, ◌+◌, ◌≤◌, ◌<◌, ◌≡◌, ◌⊎◌, Option, Some, None}
use Rattle.assign_core.specs.declared.Pair.{Pair}
use Rattle.numbers.specs.Bits.{bit}
use Rattle.numbers.specs.Limits.{first_block, last_block}

-- a run of n blocks from i of the occupancy word w: assignable blocks, and all free. Bit b of w is 1 where block b is
-- taken
pub record Run (w n i : ℕ) : Type 0 where
  pub low : first_block ≤ i
  pub high : i + n ≤ last_block + 1
  pub free : (b : ℕ) → b < i + n → i ≤ b → bit w b ≡ 0

-- a run of db blocks from j, disjoint from the ib blocks from i
pub record Beside (w i ib db j : ℕ) : Type 0 where
  pub run : Run w db j
  pub apart : (j + db ≤ i) ⊎ (i + ib ≤ j)

-- an assignment's core: a run of IB blocks and, if DB is asked for, a disjoint run of DB blocks
pub record Fits (w ib db i j : ℕ) : Type 0 where
  pub instructions : Run w ib i
  pub data-run : 1 ≤ db → Beside w i ib db j

-- a pair of starts comes before another: a lower IB start, or the same and a lower DB start
abbrev pub Before : ℕ → ℕ → ℕ → ℕ → Type 0
Before a b i j = (a < i) ⊎ ((a ≡ i) × (b < j))

-- the pair that is found fits and none before it does (so a DB that is not asked for starts at 0). Nothing is found
-- where none fits
abbrev pub LeastPair : ℕ → ℕ → ℕ → Option Pair → Type 0
LeastPair w ib db (Some p) = Fits w ib db p.0 p.1 × ((a b : ℕ) → Fits w ib db a b → Before a b p.0 p.1 → ⊥)
LeastPair w ib db None = (a b : ℕ) → Fits w ib db a b → ⊥
