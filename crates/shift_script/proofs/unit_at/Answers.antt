-- `shift_script::unit_at` meets its contract. Assumes nothing.
use Prim.Native.Nat.{ℕ}
use mathlib.Core.Path.{ap}
use Rattle.shift_script.proofs.unit_at.Goals as goal

pub returns : goal.returns
returns c = ap (λ (n : ℕ). record { 0 = n }) c.small_at.ensures
