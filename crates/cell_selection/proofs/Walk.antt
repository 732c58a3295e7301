-- The walk over the candidates, and what an assignment's core says of its starts. Assumes nothing.
use Rattle.std.specs.Prelude.{Option, Some, None}
use Prim.Native.Nat.{ℕ, ◌+◌, ◌≤◌, ◌<◌}
use mathlib.Core.Path.{◌≡◌, refl, sym, ap, subst, ◌∙◌}
use mathlib.Core.Bool.{Bool, true, false}
use mathlib.Core.List.{List}
use native.Mathlib.Omega.{arith}
use lib.Dec.{eqb}
use lib.ListN.{length, get_or, take}
use borrow.Author.Tests.{eqb-false, eqb-true}
use Rattle.numbers.proofs.Tests.{by_bool, never}
use Rattle.numbers.specs.Limits.{most_requests}
use Rattle.units.specs.declared.Unit.{Unit}
use Rattle.channels.specs.declared.Channel.{Channel}
use Rattle.cards_request.specs.declared.Facilities.{Facilities}
use Rattle.schedule_entries.specs.declared.Entry.{Entry}
use Rattle.schedule_list.specs.InSchedule.{in_schedule, entry_at}
use Rattle.schedule_list.proofs.InScheduleLaws.{schedule-at, schedule-few, schedule-sized}
use Rattle.schedule_list.specs.declared.Schedule.{Schedule}
use Rattle.schedule_candidates.specs.Candidates.{Marks}
use Rattle.assign_drum.specs.declared.Area.{Area}
use Rattle.assign_counts.specs.declared.Counts.{Counts}
use Rattle.assign_counts.specs.Assignable.{Counted}
use Rattle.assign.specs.Assignment.{Supply, supply_of, drum_length}
use Rattle.assign.specs.Parts.{parts, FirstOf, FirstLacking}
use Rattle.assign.specs.Chosen.{Assigns, nothing}
use Rattle.assign.specs.declared.Assigned.{Assigned}
use Rattle.assign.specs.declared.Part.{Part}
use Rattle.assign.specs.declared.Provision.{Provision}
use Rattle.assign.proofs.ChosenLaws.{none-lacking}
use Rattle.assign.proofs.LackingLaws.{chosen-when}
use Rattle.assign_lacking.specs.ByCounts.{LackingByCounts, HasBy}
use Rattle.assign_lacking.proofs.InCellLaws.{in_cell}
use Rattle.packets.specs.declared.Lists.{Lists}
use Rattle.cell_taken.specs.Taken.{LowestFree}
use Rattle.cell_selection.specs.Selecting.{AllHeld, Candidate, FirstFit, FirstLacks, HasNone, NoFit, Selected}
use Rattle.cell_selection.specs.Selecting.{SelectsBy, Starts, is_job, no_id, supply_in, unselected}
use Rattle.cell_selection.specs.Noting.{Picks, PicksBy, PicksNone, at_then, lacking_then, none_picked, noted, picked}
use Rattle.cell_selection.specs.declared.Choice.TheVariants.{Job, NoPlace, NoCandidates, Lacks}
use Rattle.cell_selection.specs.declared.Noted.{Noted}
use Rattle.cell_selection.proofs.SelectingLaws.{is-selected, some-free}
use Rattle.cell_selection.specs.declared.Pick.{Pick}
use Rattle.cell_selection.specs.declared.Selection.{Selection}

-- ---- what is noted of the candidates before k, of whom none has an assignment

abbrev pub NotedBy : Option Part → List Entry → Supply → ℕ → ℕ → Type 0
NotedBy None es supply k at = ((i : ℕ) → i < k → Candidate es i → ⊥) × (at ≡ 0)
NotedBy (Some part) es supply k at = (at < k) × FirstLacks es supply at part

pub record Walked (es : List Entry) (supply : Supply) (lacking : Option Part) (at k : ℕ) : Type 0 where
  pub passed : (i : ℕ) → i < k → Candidate es i → HasNone supply (entry_at es i).request
  pub so_far : NotedBy lacking es supply k at

pub walk_start : (es : List Entry) (supply : Supply) → Walked es supply None 0 0
walk_start es supply = record { passed = λ i h c. absurd (omega arith); so_far = (λ i h c. absurd (omega arith), refl) }

module _ (es : List Entry) (supply : Supply) (k : ℕ) where
  -- below k + 1 is below k, or k itself
  below : (P : ℕ → Type 0) → ((i : ℕ) → i < k → Candidate es i → P i) → (Candidate es k → P k) → (i : ℕ) → i < k + 1 → Candidate es i → P i
  below P f g i h c =
      by_bool (eqb i k) (λ q. let e : i ≡ k = eqb-true i k q in subst P (sym e) (g (subst (Candidate es) e c)))
      (λ q. f i (less (eqb-false i k q)) c)
    where
      less : (i ≡ k → ⊥) → i < k
      less q = omega arith

  -- one more is no candidate
  past : (l : Option Part) (at : ℕ) → (Candidate es k → ⊥) → NotedBy l es supply k at → NotedBy l es supply (k + 1) at
  past None at h n = (below (λ i. ⊥) n.0 h, n.1)
  past (Some part) at h n = (omega (arith, n.0), n.1)

  pub walk-past : {l : Option Part} {at : ℕ} → Walked es supply l at k → (Candidate es k → ⊥) → Walked es supply l at (k + 1)
  walk-past {l} {at} w h = record {
    passed = below (λ i. HasNone supply (entry_at es i).request) w.passed (λ d. absurd (h d));
    so_far = past l at h w.so_far;
  }

  -- one more is a candidate and lacks a part
  module _ (part : Part) (is : Candidate es k) (f : FirstLacking supply (entry_at es k).request.facilities (Some part)) where
    lacks : (l : Option Part) (at : ℕ) → NotedBy l es supply k at → NotedBy (lacking_then l part) es supply (k + 1) (at_then l at k)
    lacks None at a = (omega arith, record { candidate = is; first = a.0; lacking = f })
    lacks (Some other) at a = (omega (arith, a.0), a.1)

    pub walk-lacks : {l : Option Part} {at : ℕ} → Walked es supply l at k → Walked es supply (lacking_then l part) (at_then l at k) (k + 1)
    walk-lacks {l} {at} w = record {
      passed = below (λ i. HasNone supply (entry_at es i).request) w.passed
          (λ d b i. none-lacking supply (entry_at es k).request.facilities b i f);
      so_far = lacks l at w.so_far;
    }

  -- the last has been looked at
  pub walked_all : {l : Option Part} {at : ℕ} → Walked es supply l at k → length es ≤ k → (a : Assigned) → a ≡ nothing
      → Picks es supply (record { found = false; lacking = l; at = at; assigned = a })
  walked_all {l} {at} w h a g = by-lack l w.so_far
    where
      none : NoFit es supply
      none i d = w.passed i (omega (arith, d.0)) d

      by-lack : (m : Option Part) → NotedBy m es supply k at → PicksNone m es supply (record { found = false; lacking = l; at = at; assigned = a })
      by-lack None x = (λ i d. x.0 i (omega (arith, d.0)) d, (x.1, g))
      by-lack (Some part) x = (none, (x.1, g))

-- what the counts tell of a cell
pub told : (units : List (List Unit)) (occupancy : ℕ) (areas : List Area) (channels : List Channel) (wanted : Facilities) (counts : Counts)
    {drum : ℕ} {l m : Option Part}
    → length channels ≡ 16
    → Counted units channels counts → drum ≡ drum_length channels → LackingByCounts counts occupancy areas drum wanted l → l ≡ m
    → FirstLacking (supply_of units occupancy areas channels) wanted m
told units occupancy areas channels wanted counts {drum} {l} {m} size c e a q =
    in_cell units occupancy areas channels wanted counts size a.full c m
    (subst (λ (x : ℕ). FirstOf (HasBy counts occupancy areas x wanted) parts m) e
    (subst (FirstOf (HasBy counts occupancy areas drum wanted) parts) q a.first))

-- ---- the walk over a schedule's array, by the marks of its candidates
module _ (s : Schedule) (wide : length s.entries ≡ most_requests) {n : ℕ} (size : n ≡ length (in_schedule s)) {may : List Bool}
    (marks : Marks (in_schedule s) may) (supply : Supply) where
  part : take n s.entries ≡ in_schedule s
  part = schedule-sized s size

  pub few : n ≤ most_requests
  few = omega (arith, schedule-few s wide)

  module _ {k : ℕ} (so_far : Noted) (w : Walked (take n s.entries) supply so_far.lacking so_far.at k) where
    walked : Walked (in_schedule s) supply so_far.lacking so_far.at k
    walked = subst (λ (es : List Entry). Walked es supply so_far.lacking so_far.at k) part w

    again : {l : Option Part} {at : ℕ} → Walked (in_schedule s) supply l at (k + 1) → Walked (take n s.entries) supply l at (k + 1)
    again {l} {at} x = subst (λ (es : List Entry). Walked es supply l at (k + 1)) (sym part) x

    module _ (h : k < n) where
      inside : k < length (in_schedule s)
      inside = omega arith

      pub walk-on : get_or may k false ≡ false → Walked (take n s.entries) supply so_far.lacking so_far.at (k + 1)
      walk-on m = again (walk-past (in_schedule s) supply k walked (λ c. never c.1 (sym (marks.each k inside) ∙ m)))

      module _ (d : Entry) (m : get_or may k false ≡ true) where
        candidate : Candidate (in_schedule s) k
        candidate = (inside, sym (marks.each k inside) ∙ m)

        pub walk-found : FirstLacking supply (get_or s.entries k d).request.facilities None
            → (given : Provision) → Assigns supply (get_or s.entries k d).request.facilities given
            → (r : Pick) → r ≡ picked k given → Picks (in_schedule s) supply r
        walk-found f given a r e =
            let fit : FirstFit (in_schedule s) supply k given.assigned = record {
              candidate = candidate;
              chosen = rw (sym (schedule-at s k d inside)) (chosen-when supply (get_or s.entries k d).request.facilities f given a);
              first = walked.passed;
            } in
            subst (Picks (in_schedule s) supply) (sym e) (fit, refl)

        pub walk-next : (part : Part) → FirstLacking supply (get_or s.entries k d).request.facilities (Some part)
            → (next : Noted) → next ≡ noted so_far part k → Walked (take n s.entries) supply next.lacking next.at (k + 1)
        walk-next part f next e =
            subst (λ (x : Noted). Walked (take n s.entries) supply x.lacking x.at (k + 1)) (sym e)
            (again (walk-lacks (in_schedule s) supply k part candidate (rw (sym (schedule-at s k d inside)) f) walked))

    -- the last has been looked at
    pub walk_end : n ≤ k → (r : Pick) → r ≡ none_picked so_far → Picks (in_schedule s) supply r
    walk_end h r e = subst (Picks (in_schedule s) supply) (sym e) (walked_all (in_schedule s) supply k walked (omega arith) nothing refl)

-- ---- the whole selection

-- no place is free
pub refused_full : (es : List Entry) (lists : Lists) (r : Selection) → AllHeld lists → r ≡ unselected NoPlace no_id → SelectsBy r.choice es lists r
refused_full es lists r f e = rw e ((f, refl), refl)

module _ (es : List Entry) (lists : Lists) (p : Pick) (place : ℕ) (entry : Entry) (picks : Picks es (supply_in lists) p)
    (l : LowestFree lists.jobs (Some place))
    (is : entry ≡ entry_at es p.at) where
  module _ (f : p.found ≡ false) where
    none : {l : Option Part} → p.lacking ≡ l → PicksNone l es (supply_in lists) p
    none e = subst (λ (l : Option Part). PicksNone l es (supply_in lists) p) e (subst (λ (b : Bool). PicksBy b es (supply_in lists) p) f picks)

    -- there are no candidates
    pub refused_none : p.lacking ≡ None → (r : Selection) → r ≡ unselected NoCandidates no_id → SelectsBy r.choice es lists r
    refused_none e r g = rw g ((some-free lists l, ((none e).0, refl)), refl)

    -- none has an assignment
    pub refused-lacks : (part : Part) → p.lacking ≡ Some part → (r : Selection) → r ≡ unselected (Lacks part) entry.request.id
        → SelectsBy r.choice es lists r
    refused-lacks part e r g = rw g ((some-free lists l, ((none e).0, (p.at, ((none e).1.0, ap (λ (x : Entry). x.request.id) is)))), refl)

  -- the first that has one, for the lowest free place
  pub selected : p.found ≡ true
      → Selected es lists (record { choice = Job; first = no_id; place = place; at = p.at; request = entry.request; assigned = p.assigned })
  selected e = record {
    place = l;
    fit = (subst (λ (b : Bool). PicksBy b es (supply_in lists) p) e picks).0;
    request = ap (λ (x : Entry). x.request) is;
    unnamed = refl;
  }

-- the starts of an assignment's blocks are numbers of blocks
pub starts : (es : List Entry) (lists : Lists) (r : Selection) → is_job r.choice ≡ true → SelectsBy r.choice es lists r
    → Starts r.request.facilities r.assigned
starts es lists r f s =
    let d : Selected es lists r = is-selected es lists r r.choice f s in
    let k = d.fit.chosen.is.core in
    rw d.request (record {
      ib = λ n. omega (arith, k.instructions.high);
      db = λ n. omega (arith, (k.data-run (omega arith)).run.high);
    })
