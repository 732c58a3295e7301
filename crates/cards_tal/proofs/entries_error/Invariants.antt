-- `cards_tal::entries_error` meets its contract. The loop's invariant: no entry before index k is wrong. Assumes nothing.
use Prim.Native.Nat.{◌≤◌}
use mathlib.Core.Path.{◌≡◌}
use lib.ListN.{drop}
use Rattle.cards_fields.specs.Fields.{fields}
use Rattle.cards_tal.specs.Tal.{entries_error}
use Rattle.cards_tal.proofs.entries_error.Given as goal

abbrev pub invariant-loop-k : goal.invariant-loop-k
invariant-loop-k l = (2 ≤ l.k) × (entries_error (drop l.k (fields l.card)) ≡ entries_error (drop 2 (fields l.card)))
