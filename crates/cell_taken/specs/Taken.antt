-- What the jobs in their places hold of core and drum, and the lowest free place.
use Rattle.std.specs.Prelude.{ℕ, zero, suc, ◌+◌, ◌*◌, ◌<◌, ◌≡◌, Bool, true, false, cond, ◌||◌, List, Option, Some, None}
use Rattle.assign_drum.specs.declared.Area.{Area}
use Rattle.assign_drum.specs.Drum.{no_area}
use Rattle.packets.specs.declared.Core.{Core}
use Rattle.packets.specs.declared.Job.{Job}
use Rattle.numbers.specs.Elements.{any}
use Rattle.packets.specs.State.{in_run, is_empty, no_core, state_in}

-- a block of a job's core: of its IB run or its DB run
abbrev pub in_blocks : Core → ℕ → Bool
in_blocks core b = in_run core.ib b || in_run core.db b

-- the blocks that the job of a place holds; none in an empty place
abbrev pub core_of : Job → Core
core_of job = cond (is_empty job.state) no_core job.core

-- the drum area that the job of a place holds; no words in an empty place
abbrev pub area_of : Job → Area
area_of job = cond (is_empty job.state) no_area (record { start = job.from; words = job.words })

-- some place holds block b
abbrev pub any_has : List Core → ℕ → Bool
any_has cores b = any (λ (core : Core). in_blocks core b) cores

-- the word of n bits from bit k on: bit b is 1 where the block is taken
unfoldable pub word_from : (ℕ → Bool) → ℕ → ℕ → ℕ
word_from taken k zero = 0
word_from taken k (suc n) = word_from taken (suc k) n * 2 + cond (taken k) 1 0

-- the occupancy word of n blocks
abbrev pub occupancy : (ℕ → Bool) → ℕ → ℕ
occupancy taken n = word_from taken 0 n

-- "the lowest free place": no job is in it, and one is in each before it; full where one is in each of the 16
abbrev pub LowestFree : List Job → Option ℕ → Type 0
LowestFree jobs (Some p) = (p < 16) × ((is_empty (state_in jobs p) ≡ true) × ((q : ℕ) → q < p → is_empty (state_in jobs q) ≡ false))
LowestFree jobs None = (q : ℕ) → q < 16 → is_empty (state_in jobs q) ≡ false
