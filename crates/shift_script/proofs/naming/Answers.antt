-- `shift_script::naming` meets its contract. Assumes nothing.
use Prim.Native.Nat.{ℕ}
use mathlib.Core.Path.{ap}
use mathlib.Core.List.{List}
use Rattle.shift_script.proofs.naming.Goals as goal

pub returns : goal.returns
returns c = ap (λ (i : List ℕ). record { line = c.args.call; id = i }) c.id_at.ensures
