-- `cell_taken::is_taken` meets its contract. The loop's invariant stands first; the lemmas of its turns are in this
-- folder's other files. Assumes nothing.
use Prim.Native.Nat.{◌≤◌}
use mathlib.Core.Path.{◌≡◌}
use lib.ListN.{length, drop}
use Rattle.numbers.specs.Elements.{any}
use Rattle.packets.specs.declared.Core.{Core}
use Rattle.cell_taken.specs.Taken.{in_blocks, any_has}
use Rattle.cell_taken.proofs.is_taken.Given as goal

abbrev pub invariant-loop-i : goal.invariant-loop-i
invariant-loop-i l = (l.i ≤ 16) × (length l.held ≡ 16) × (any (λ (core : Core). in_blocks core l.b) (drop l.i l.held) ≡ any_has l.held l.b)
