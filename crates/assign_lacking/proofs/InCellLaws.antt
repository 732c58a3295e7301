-- THE THEOREM: by the counts of a cell, the first part that is lacking is the first that alone has no solution in the
-- cell. Assumes nothing.
use Rattle.std.specs.Prelude.{Option}
use Prim.Native.Nat.{ℕ, ◌<◌}
use mathlib.Core.Path.{◌≡◌}
use mathlib.Core.List.{List, ◌∷◌}
use lib.ListN.{length}
use Rattle.numbers.specs.Kinds.{unit_kinds}
use Rattle.cards_request.specs.Requests.{counts as many}
use Rattle.units.specs.declared.Unit.{Unit}
use Rattle.channels.specs.declared.Channel.{Channel}
use Rattle.assign_drum.specs.declared.Area.{Area}
use Rattle.assign_counts.specs.declared.Counts.{Counts}
use Rattle.assign_counts.specs.Assignable.{counts_of, Counted}
use Rattle.cards_request.specs.declared.Facilities.{Facilities}
use Rattle.assign.specs.Assignment.{Supply, supply_of, drum_length, wants_of}
use Rattle.assign.specs.Parts.{kinds, parts, FirstOf, FirstLacking, Has, HasKind}
use Rattle.assign.specs.declared.Part.{Part}
use Rattle.assign.specs.declared.Part.TheVariants.{Core, Drum}
use Rattle.assign.proofs.FirstLaws.{first_next, first-same, kind-there, kind-here}
use Rattle.assign_lacking.specs.ByCounts.{Servable, HasBy}
use Rattle.assign_lacking.proofs.KindLaws.{kind-servable, servable-kind}

module _ (units : List (List Unit)) (occupancy : ℕ) (areas : List Area) (channels : List Channel) (wanted : Facilities) (counts : Counts)
    (size : length channels ≡ 16)
    (full : length wanted.units ≡ many) (c : Counted units channels counts) where
  abbrev supply : Supply
  supply = supply_of units occupancy areas channels

  abbrev counted : Part → Type 0
  counted = HasBy counts occupancy areas (drum_length channels) wanted

  to-kind : (order : ℕ) → order < unit_kinds → Servable (counts_of counts order) (wants_of wanted order) → HasKind supply wanted order
  to-kind order h s = let k = servable-kind units channels size order h counts wanted full c s in record { on = k.0; to = k.1.0; served = k.1.1 }

  from-kind : (order : ℕ) → order < unit_kinds → HasKind supply wanted order → Servable (counts_of counts order) (wants_of wanted order)
  from-kind order h k = kind-servable units channels size order h counts wanted full c k.on k.to k.served

  abbrev servable : ℕ → Type 0
  servable order = Servable (counts_of counts order) (wants_of wanted order)

  pub in_cell : (r : Option Part) → FirstOf counted parts r → FirstLacking supply wanted r
  in_cell r =
      first_next counted (Has supply wanted) Core (Drum ∷ kinds) r (λ h. h) (λ h. h)
      (first_next counted (Has supply wanted) Drum kinds r (λ h. h) (λ h. h)
      (first-same counted (Has supply wanted) Core kinds r
      (λ i l h. kind-there (Has supply wanted) (HasKind supply wanted) (λ k x. x) (λ k x. x) i l
      (to-kind i l (kind-here counted servable (λ k x. x) (λ k x. x) i l h)))
      (λ i l h. kind-there counted servable (λ k x. x) (λ k x. x) i l
      (from-kind i l (kind-here (Has supply wanted) (HasKind supply wanted) (λ k x. x) (λ k x. x) i l h)))))
