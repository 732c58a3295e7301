-- What is known when the units below i have been given: what the loop that gives them keeps. Nothing here has to be
-- believed.
use Rattle.std.specs.Prelude.{ℕ, ◌+◌, ◌≤◌, ◌<◌, ◌/◌, ◌≡◌, Bool, true, false, List, length, get_or, ◌⊎◌, Option}
use Rattle.numbers.specs.declared.LogicalChannel.{LogicalChannel}
use Rattle.assign_channels.specs.declared.ByLogical.{ByLogical}
use Rattle.assign_channels.specs.Choice.{want}
use Rattle.assign_heads.specs.declared.Head.{Head}
use Rattle.assign_heads.specs.Heads.{is_given, is_to}
use Rattle.assign_heads.specs.Whose.{logical, free_at, blank, to_at}
use Rattle.assign_heads.specs.Sums.{how_many}

-- the units below i, by number
pub record Passed (free : ℕ → Bool) (own want : ℕ → ℕ) (to : ℕ → Option LogicalChannel) (left : ByLogical) (i : ℕ) : Type 0 where
  -- what is given and what is lacking make what is asked for
  pub counted : (l : ℕ) → l < 16 → how_many i (λ j. is_to l (to j)) + get_or left.0 l 0 ≡ want l
  pub whose : (j l : ℕ) → j < i → is_to l (to j) ≡ true → (l ≡ own (j / 16)) ⊎ (l ≡ 0)
  -- while an entry lacks a unit, every assignable unit that it may have is given
  pub first : (j : ℕ) → j < i → free j ≡ true → 1 ≤ get_or left.0 (own (j / 16)) 0 → is_to (own (j / 16)) (to j) ≡ true
  pub some : (j : ℕ) → j < i → free j ≡ true → 1 ≤ get_or left.0 0 0 → is_given (to j) ≡ true
  -- the lowest units
  pub units : (j k l : ℕ) → j < k → k < i → 1 ≤ l → is_to l (to k) ≡ true → j / 16 ≡ k / 16 → free j ≡ true → is_to l (to j) ≡ true
  pub rest : (j k : ℕ) → j < k → k < i → is_to 0 (to k) ≡ true → free j ≡ true → is_given (to j) ≡ true

-- the number of the entry that has a channel
abbrev pub own_at : List LogicalChannel → ℕ → ℕ
own_at own c = (get_or own c (logical 0)).0

-- each is a logical channel
pub record Logical (own : List LogicalChannel) : Type 0 where
  pub each : (c : ℕ) → c < 16 → own_at own c < 16

-- the units below i have been given; the units of other kinds keep what they were given to
pub record Gave (free : List Bool) (own : List LogicalChannel) (wants : ByLogical) (before after : List Head) (left : ByLogical)
    (i : ℕ) : Type 0 where
  pub high : i ≤ 256
  pub wide : length after ≡ 256
  pub long : length left.0 ≡ 16
  pub passed : Passed (free_at free) (own_at own) (want wants) (to_at free after) left i
  pub kept : (j : ℕ) → free_at free j ≡ false → get_or after j blank ≡ get_or before j blank

-- all units have been given
pub record GaveOut (free : List Bool) (own : List LogicalChannel) (wants : ByLogical) (before after : List Head) : Type 0 where
  pub left : ByLogical
  pub gave : Gave free own wants before after left 256
