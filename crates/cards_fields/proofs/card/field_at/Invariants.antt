-- `cards_fields::card::field_at` meets its contract. The loop's invariant: `f` is what was gathered, and `left` how
-- many commas are to pass, so that `f` with what is left of the field is the field. Assumes nothing.
use Prim.Native.Nat.{◌≤◌}
use mathlib.Core.Path.{◌≡◌}
use mathlib.Core.List.{[]}
use lib.ListN.{drop}
use Rattle.cards_fields.specs.Fields.{field, field_of}
use Rattle.cards_fields.proofs.FieldLaws.{added_all}
use Rattle.cards_fields.proofs.card.field_at.Given as goal

abbrev pub invariant-loop-b : goal.invariant-loop-b
invariant-loop-b l =
    (l.f.len ≤ l.b-index) × (added_all l.f (field (drop l.b-index l.card) l.left) ≡ added_all (field_of []) (field l.card l.k))
