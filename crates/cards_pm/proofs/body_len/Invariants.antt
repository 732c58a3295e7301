-- `cards_pm::body_len` meets its contract. The loop's invariant: from n on there is no period. Assumes nothing.
use mathlib.Core.Path.{◌≡◌}
use Prim.Native.Nat.{◌≤◌}
use mathlib.Core.Bool.{false}
use lib.ListN.{length, drop}
use Rattle.words.specs.Words.{has}
use Rattle.cards_pm.proofs.body_len.Given as goal

abbrev pub invariant-loop-n : goal.invariant-loop-n
invariant-loop-n l = (l.n ≤ length l.card) × (has (drop l.n l.card) 46 ≡ false)
