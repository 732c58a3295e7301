-- Looking for the oldest packet that can start, as the loop of `start` does. Assumes nothing.
use Rattle.std.proofs.Common.{None, Some}
use Prim.Native.Nat.{ℕ, ◌+◌, ◌≤◌, ◌<◌}
use mathlib.Core.Path.{◌≡◌, refl, sym, ap, ◌∙◌}
use mathlib.Core.Bool.{Bool, true, false}
use mathlib.Core.List.{List}
use mathlib.Core.Option.{Option, none, some}
use native.Mathlib.Omega.{arith}
use lib.ListN.{length, get_or, take}
use Rattle.units.specs.declared.Unit.{Unit as UnitState}
use Rattle.packets.proofs.PickLaws.{find-part, find-step}
use Rattle.numbers.specs.Elements.{find}
use Rattle.packets.specs.Rules.{startable_on}
use Rattle.packets.specs.State.{Found}
use Rattle.packets.specs.declared.Job.{Job}
use Rattle.packets.specs.declared.Lists.{Lists}
use Rattle.packets_queue.proofs.Relist.{listed-is}
use Rattle.packets_queue.proofs.Startable.{can_start_at, found-is}
use Rattle.packets_queue.specs.Keeping.{RowOf, Sized}
use Rattle.packets_queue.specs.Padded.{list_of}
use Rattle.lists.specs.Parts.{found_of}

-- what the loop keeps: none of the first k entries can start
pub record Searching (row : List UnitState) (jobs : List Job) (c : ℕ) (entries : List ℕ) (end k : ℕ) (found : Found) : Type 0 where
  pub passed : k ≤ end
  pub unstarted : find (can_start_at row jobs c) (take k entries) ≡ none
  pub nowhere : found ≡ None

pub search-starts : (row : List UnitState) (jobs : List Job) (c : ℕ) (entries : List ℕ) (end : ℕ) → Searching row jobs c entries end 0 None
search-starts row jobs c entries end = record { passed = omega arith; unstarted = refl; nowhere = refl }

module _ (r : Lists) (c : ℕ) (row : List UnitState) (R : RowOf r.units.of c row) (full : length r.list.entries ≡ 256)
    (end : ℕ) (S : Sized r.list.entries r.list.count end) where
  abbrev test : ℕ → Bool
  test = can_start_at row r.jobs c

  -- the packet that the rules find
  abbrev pub wanted : Found
  wanted = found_of (find (startable_on r.units.of r.jobs c) (list_of r.list))

  found_of_lem : (o : Option ℕ) → find test (take end r.list.entries) ≡ o → found_of o ≡ wanted
  found_of_lem o e =
      sym (ap found_of e)
      ∙ ap (λ (l : List ℕ). found_of (find test l))
      (ap (λ (n : ℕ). take n r.list.entries) S.is ∙ listed-is r.list.entries r.list.count (omega (arith, full)))
      ∙ ap found_of (found-is r.units.of r.jobs c row R (list_of r.list))

  module _ (k : ℕ) (found : Found) (L : Searching row r.jobs c r.list.entries end k found) where
    pub search-over : end ≤ k → found ≡ wanted
    search-over h =
        let e : k ≡ end = omega (arith, L.passed) in
        L.nowhere ∙ found_of_lem none (rw e at L.unstarted)

    module _ (less : k < end) (b : Bool) (t : test (get_or r.list.entries k 0) ≡ b) where
      pub search-found : b ≡ true → Some (get_or r.list.entries k 0) ≡ wanted
      search-found y =
          let e : find test (take (k + 1) r.list.entries) ≡ some (get_or r.list.entries k 0) =
          find-step test r.list.entries k 0 (omega (arith, S.within)) L.unstarted ∙ rw (t ∙ y) in
          found_of_lem (some (get_or r.list.entries k 0)) (find-part test r.list.entries (k + 1) end (get_or r.list.entries k 0) (omega arith) e)

      pub search-on : b ≡ false → Searching row r.jobs c r.list.entries end (k + 1) found
      search-on n =
          record {
            passed = omega arith;
            unstarted = find-step test r.list.entries k 0 (omega (arith, S.within)) L.unstarted ∙ rw (t ∙ n);
            nowhere = L.nowhere;
          }
