-- The list as an array with 0 past its packets is read back. Assumes nothing.
use Prim.Native.Nat.{ℕ, ◌-◌}
use mathlib.Core.Path.{◌≡◌, refl}
use mathlib.Core.List.{List}
use lib.ListN.{length, replicate}
use lib.Seq.{take_at}
use Rattle.packets_queue.specs.Padded.{list_of, padded}

-- reading back what was padded
pub list-padded : (l : List ℕ) → list_of (padded l) ≡ l
list-padded l = take_at l (replicate (256 - length l) 0) (length l) refl
