-- `cards_fields::parts::gathered` meets its contract. The loop's invariant: what was gathered, with the rest of the text
-- without its spaces, is the whole. Assumes nothing.
use Prim.Native.Nat.{◌≤◌}
use mathlib.Core.Path.{◌≡◌}
use mathlib.Core.List.{[]}
use lib.ListN.{drop}
use Rattle.cards_fields.specs.Fields.{spaceless, field_of}
use Rattle.cards_fields.proofs.FieldLaws.{added_all}
use Rattle.cards_fields.proofs.parts.gathered.Given as goal

abbrev pub invariant-loop-b : goal.invariant-loop-b
invariant-loop-b l = (l.f.len ≤ l.b-index) × (added_all l.f (spaceless (drop l.b-index l.s)) ≡ added_all (field_of []) (spaceless l.s))
