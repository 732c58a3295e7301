-- What the search learns of one start. It is clear, or an area is in the way of it and of every later start up to that
-- area's end. Nothing here has to be believed: private functions cite it, and Drum says what comes out.
use Rattle.std.specs.Prelude.{ℕ, ◌+◌, ◌<◌, ◌^◌, ◌≡◌, List, get_or, Option, Some, None}
use Rattle.assign_drum.specs.declared.Area.{Area}
use Rattle.assign_drum.specs.Drum.{no_area}

-- the address after an area's last
abbrev pub end_of : Area → ℕ
end_of a = a.start + a.words

-- an end that was worked out
pub record EndIs (a : Area) (r : ℕ) : Type 0 where
  pub is : r ≡ end_of a
  pub small : r < 2 ^ 33

-- an area shares a word with the n from s
pub record Meets (a : Area) (s n : ℕ) : Type 0 where
  pub before : a.start < s + n
  pub after : s < end_of a
  pub some : a.start < end_of a

-- the end of an area that shares a word with the n from s
pub record InTheWay (held : List Area) (s n e : ℕ) : Type 0 where
  pub at : ℕ
  pub meets : Meets (get_or held at no_area) s n
  pub is : e ≡ end_of (get_or held at no_area)
  pub small : e < 2 ^ 33

-- such an area's end, where there is one
abbrev pub Seen : List Area → ℕ → ℕ → Option ℕ → Type 0
Seen held s n (Some e) = InTheWay held s n e
Seen held s n None = (k : ℕ) → Meets (get_or held k no_area) s n → ⊥
