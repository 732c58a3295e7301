-- `cards_pty::fields_error` meets its contract. The loop's invariant: no field before index k is wrong, so the first
-- error is that of the fields from there on. Assumes nothing.
use Prim.Native.Nat.{◌≤◌}
use mathlib.Core.Path.{◌≡◌}
use Rattle.cards_fields.specs.Fields.{fields}
use Rattle.cards_pty.specs.Pty.{fields_error}
use Rattle.cards_pty.proofs.PtyLaws.{from_index}
use Rattle.cards_pty.proofs.fields_error.Given as goal

abbrev pub invariant-loop-k : goal.invariant-loop-k
invariant-loop-k l = (l.k ≤ 14) × (from_index l.k (fields l.card) ≡ fields_error (fields l.card))
