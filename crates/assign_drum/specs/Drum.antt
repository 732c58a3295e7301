-- The drum: the lowest assignable address is 35,329 (105001o). Areas are contiguous. What a job's area is, and which
-- is chosen. A reader has to believe this page.
use Rattle.std.specs.Prelude.{ℕ, ◌+◌, ◌≤◌, ◌<◌, List, get_or, Option, Some, None}
use Rattle.numbers.specs.Limits.{lowest_address}
use Rattle.assign_drum.specs.declared.Area.{Area}

-- an area that has no words: the one of a place that holds none
abbrev pub no_area : Area
no_area = record { start = 0; words = 0 }

-- an address is one of an area's
pub record In (a : Area) (x : ℕ) : Type 0 where
  pub from : a.start ≤ x
  pub below : x < a.start + a.words

-- n words from s are free: none of them is in an area that a place holds
abbrev pub Free : List Area → ℕ → ℕ → Type 0
Free held n s = (x : ℕ) → s ≤ x → x < s + n → (k : ℕ) → In (get_or held k no_area) x → ⊥

-- a contiguous area of n free words from s: assignable addresses, on a drum with the addresses 0 to size - 1
pub record IsArea (held : List Area) (size n s : ℕ) : Type 0 where
  pub low : lowest_address ≤ s
  pub high : s + n ≤ size
  pub free : Free held n s

-- an assignment's drum area, if asked for
abbrev pub Fits : List Area → ℕ → ℕ → ℕ → Type 0
Fits held size n s = 1 ≤ n → IsArea held size n s

-- the lowest start (so an area that is not asked for starts at 0); nothing is found where none fits
abbrev pub LowestStart : List Area → ℕ → ℕ → Option ℕ → Type 0
LowestStart held size n (Some s) = Fits held size n s × ((b : ℕ) → b < s → Fits held size n b → ⊥)
LowestStart held size n None = (b : ℕ) → Fits held size n b → ⊥
