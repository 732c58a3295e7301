-- `cards_fields::card::last_field` meets its contract. The loop's invariant: n commas were passed, so the fields are
-- n and those from the index on. Assumes nothing.
use Prim.Native.Nat.{◌+◌, ◌≤◌}
use mathlib.Core.Path.{◌≡◌}
use lib.ListN.{length, drop}
use Rattle.cards_fields.specs.Fields.{fields}
use Rattle.cards_fields.proofs.card.last_field.Given as goal

abbrev pub invariant-loop-b : goal.invariant-loop-b
invariant-loop-b l = (l.n ≤ l.b-index) × (l.n + length (fields (drop l.b-index l.card)) ≡ length (fields l.card))
