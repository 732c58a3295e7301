-- `cards_trn::transfers_error` meets its contract. The loop's invariant: no transfer before index k is wrong. Assumes
-- nothing.
use Prim.Native.Nat.{◌≤◌}
use mathlib.Core.Path.{◌≡◌}
use lib.ListN.{drop}
use Rattle.cards_fields.specs.Fields.{fields}
use Rattle.cards_trn.specs.Trn.{transfers_error}
use Rattle.cards_trn.proofs.transfers_error.Given as goal

abbrev pub invariant-loop-k : goal.invariant-loop-k
invariant-loop-k l = (3 ≤ l.k) × (transfers_error (drop l.k (fields l.card)) ≡ transfers_error (drop 3 (fields l.card)))
