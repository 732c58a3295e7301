-- A CELL THAT IS COMPUTED: what each call answers and leaves, as functions that compute. Whatever the contracts
-- allow is what they compute, so that cases are shown by computing. Selection goes through the candidates with the
-- computed assigner. Assumes nothing.
use Rattle.std.proofs.Common.{None, Option, Some}
use Prim.Native.Nat.{ℕ, zero, suc, ◌+◌, ◌≤◌, ◌<◌}
use mathlib.Core.Path.{◌≡◌, refl, ap, ◌∙◌}
use mathlib.Core.Bool.{Bool, true, false, cond, ◌&&◌}
use mathlib.Core.List.{List, [], ◌∷◌}
use mathlib.Core.Logic.{⊎_elim}
use native.Mathlib.Nat.{eq-or-lt_of_le}
use native.Mathlib.Omega.{arith}
use lib.Dec.{eqb}
use lib.ListN.{length}
use borrow.Author.Tests.{eqb-true}
use Rattle.cards_request.specs.Requests.{counts as many}
use Rattle.numbers.proofs.Tests.{by_bool, both, never}
use Rattle.schedule_entries.specs.declared.Entry.{Entry}
use Rattle.schedule_list.specs.InSchedule.{entry_at, in_schedule}
use Rattle.schedule_list.specs.declared.Schedule.{Schedule}
use Rattle.schedule_candidates.specs.Candidates.{candidate}
use Rattle.schedule_deck.specs.Report.{deck_outcome, deck_schedule}
use Rattle.assign.specs.Assignment as Assign
use Rattle.assign.specs.Chosen.{Answer, nothing}
use Rattle.assign.proofs.Computed.{assign-answers, assign_of}
use Rattle.assign.specs.declared.Assigned.{Assigned}
use Rattle.assign.specs.declared.Part.{Part}
use Rattle.packets.specs.State.{is_empty, state_in}
use Rattle.packets.specs.declared.Job.{Job}
use Rattle.packets.specs.declared.Lists.{Lists}
use Rattle.cell_taken.specs.Taken.{LowestFree}
use Rattle.cell_selection.specs.Selecting.{Selects, is_job, left_by, no_id, supply_in, unselected}
use Rattle.cell_selection.specs.Noting.{Picks, PicksBy, PicksNone, at_then, lacking_then}
use Rattle.cell_selection.proofs.SelectingLaws.{some-free}
use Rattle.cell_selection.proofs.Walk.{Walked, walk_start, walk-past, walk-lacks, walked_all}
use Rattle.cell_selection.specs.declared.Choice.TheVariants as Choices
use Rattle.cell_selection.specs.declared.Choice.TheVariants.{NoPlace, NoCandidates, Lacks}
use Rattle.cell_selection.specs.declared.Pick.{Pick}
use Rattle.cell_selection.specs.declared.Selection.{Selection}
use Rattle.keyboard.specs.Messages.{read_message}
use Rattle.cell.specs.Calls.{SelectsIn, acted, cell_of, deleting, heeded, outcome_of, releasing, status_of}
use Rattle.cell.specs.declared.Cell.{Cell}
use Rattle.cell.specs.declared.Heeded.{Heeded}
use Rattle.cell.specs.declared.SelectAnswer.{SelectAnswer}
use Rattle.cell_history.proofs.One.{selects-in-one}
use Rattle.cell_history.specs.History.{Call, Chosen, Deck, Delete, Do, Does, Entered, Key, Release, Reply, Said, Select, Shown, Status, reply_of as told_reply}

-- ---- the first candidate with an assignment, or what the first of all lacks, of n from index k on

abbrev or_next : ℕ → Option Part → Assigned → Option Part → ℕ → (Option Part → ℕ → Pick) → Pick
or_next k None a l at next = record { found = true; lacking = None; at = k; assigned = a }
or_next k (Some part) a l at next = next (lacking_then l part) (at_then l at k)

abbrev pick_from : List Entry → Assign.Supply → ℕ → ℕ → Option Part → ℕ → Pick
pick_from es cell zero k l at = record { found = false; lacking = l; at = at; assigned = nothing }
pick_from es cell (suc n) k l at =
    let p = assign_of cell (entry_at es k).request.facilities in
    cond (candidate es (entry_at es k)) (or_next k p.lacking p.assigned l at (pick_from es cell n (k + 1))) (pick_from es cell n (k + 1) l at)

abbrev pick_of : List Entry → Assign.Supply → Pick
pick_of es cell = pick_from es cell (length es) 0 None 0

module _ (es : List Entry) (cell : Assign.Supply) (size : length cell.channels ≡ 16)
    (full : (k : ℕ) → length (entry_at es k).request.facilities.units ≡ many) where
  picks-from : (n k : ℕ) (x : Option Part) (at : ℕ) → k + n ≡ length es → Walked es cell x at k → Picks es cell (pick_from es cell n k x at)
  picks-from zero k x at e w = walked_all es cell k w (omega arith) nothing refl
  picks-from (suc n) k x at e w =
      let p = assign_of cell (entry_at es k).request.facilities in
      by_bool (candidate es (entry_at es k))
      (λ c. rw c (tried c p.lacking p.assigned (assign-answers cell (entry_at es k).request.facilities size (full k))
      (λ part. picks-from n (k + 1) (lacking_then x part) (at_then x at k) (omega arith))))
      (λ c. rw c (picks-from n (k + 1) x at (omega arith) (walk-past es cell k w (λ d. never d.1 c))))
    where
      tried : candidate es (entry_at es k) ≡ true → (l : Option Part) (a : Assigned) → Answer l cell (entry_at es k).request.facilities a
          → ((part : Part) → Walked es cell (lacking_then x part) (at_then x at k) (k + 1)
          → Picks es cell (pick_from es cell n (k + 1) (lacking_then x part) (at_then x at k)))
          → Picks es cell (or_next k l a x at (pick_from es cell n (k + 1)))
      tried c None a q next = (record { candidate = (omega arith, c); chosen = q; first = w.passed }, refl)
      tried c (Some part) a q next = next part (walk-lacks es cell k part (omega arith, c) q.0 w)

  pub picks : Picks es cell (pick_of es cell)
  picks = picks-from (length es) 0 None 0 (omega arith) (walk_start es cell)

-- ---- the lowest free place, of n from place p on

abbrev place_from : List Job → ℕ → ℕ → Option ℕ
place_from jobs zero p = None
place_from jobs (suc n) p = cond (is_empty (state_in jobs p)) (Some p) (place_from jobs n (suc p))

place-from : (jobs : List Job) (n p : ℕ) → p + n ≡ 16 → ((q : ℕ) → q < p → is_empty (state_in jobs q) ≡ false) → LowestFree jobs (place_from jobs n p)
place-from jobs zero p e before = λ q h. before q (omega arith)
place-from jobs (suc n) p e before =
    by_bool (is_empty (state_in jobs p))
    (λ t. rw t (omega arith, (t, before)))
    (λ t. rw t (place-from jobs n (suc p) (omega arith) (λ q h. upto q h t)))
  where
    upto : (q : ℕ) → q < suc p → is_empty (state_in jobs p) ≡ false → is_empty (state_in jobs q) ≡ false
    upto q h t = ⊎_elim (λ e. ap (λ (x : ℕ). is_empty (state_in jobs x)) e ∙ t) (λ l. before q l) (eq-or-lt_of_le (less q h))
      where
        less : (q : ℕ) → q < suc p → q ≤ p
        less q h = omega arith

-- ---- selection

abbrev unselected_by : Option Part → Schedule → Pick → Selection
unselected_by None schedule p = unselected NoCandidates no_id
unselected_by (Some part) schedule p = unselected (Lacks part) (entry_at (in_schedule schedule) p.at).request.id

abbrev selected_by : Bool → Schedule → ℕ → Pick → Selection
selected_by true schedule place p =
    record {
      choice = Choices.Job;
      first = no_id;
      place = place;
      at = p.at;
      request = (entry_at (in_schedule schedule) p.at).request;
      assigned = p.assigned;
    }
selected_by false schedule place p = unselected_by p.lacking schedule p

abbrev selected_as : Schedule → ℕ → Pick → Selection
selected_as schedule place p = selected_by p.found schedule place p

abbrev selection_by : Schedule → Lists → Option ℕ → Selection
selection_by schedule lists None = unselected NoPlace no_id
selection_by schedule lists (Some place) = selected_as schedule place (pick_of (in_schedule schedule) (supply_in lists))

abbrev pub selection_of : Schedule → Lists → Selection
selection_of schedule lists = selection_by schedule lists (place_from lists.jobs 16 0)

abbrev pub select_of : Cell → SelectAnswer
select_of c =
    let s = selection_of c.schedule c.lists in
    record {
      outcome = outcome_of s.choice;
      selection = s;
      cell = cell_of (left_by (is_job s.choice) c.schedule c.lists s).0 (left_by (is_job s.choice) c.schedule c.lists s).1;
    }

-- the request's counts and the cell's channels are as many as they are in every cell of the code
abbrev counts_full : List Entry → Bool
counts_full [] = true
counts_full (e ∷ es) = eqb (length e.request.facilities.units) many && counts_full es

abbrev pub sized : Cell → Bool
sized c = eqb (length c.lists.channels) 16 && counts_full (in_schedule c.schedule)

counts-full : (es : List Entry) → counts_full es ≡ true → (k : ℕ) → length (entry_at es k).request.facilities.units ≡ many
counts-full [] f k = refl
counts-full (e ∷ es) f zero =
    eqb-true (length e.request.facilities.units) many (both (eqb (length e.request.facilities.units) many) (counts_full es) f).0
counts-full (e ∷ es) f (suc k) = counts-full es (both (eqb (length e.request.facilities.units) many) (counts_full es) f).1 k

module _ (c : Cell) (s : sized c ≡ true) where
  parts : (eqb (length c.lists.channels) 16 ≡ true) × (counts_full (in_schedule c.schedule) ≡ true)
  parts = both (eqb (length c.lists.channels) 16) (counts_full (in_schedule c.schedule)) s

  picked : Picks (in_schedule c.schedule) (supply_in c.lists) (pick_of (in_schedule c.schedule) (supply_in c.lists))
  picked =
      picks (in_schedule c.schedule) (supply_in c.lists) (eqb-true (length c.lists.channels) 16 parts.0)
      (counts-full (in_schedule c.schedule) parts.1)

  module _ (place : ℕ) (l : LowestFree c.lists.jobs (Some place)) (p : Pick) where
    by-lack : (x : Option Part) → PicksNone x (in_schedule c.schedule) (supply_in c.lists) p
        → Selects c.schedule c.lists (unselected_by x c.schedule p)
    by-lack None w = ((some-free c.lists l, (w.0, refl)), refl)
    by-lack (Some part) w = ((some-free c.lists l, (w.0, (p.at, (w.1.0, refl)))), refl)

    selects_at : (found : Bool) → PicksBy found (in_schedule c.schedule) (supply_in c.lists) p
        → Selects c.schedule c.lists (selected_by found c.schedule place p)
    selects_at true w = record { place = l; fit = w.0; request = refl; unnamed = refl }
    selects_at false w = by-lack p.lacking w

  selects-by : (f : Option ℕ) → LowestFree c.lists.jobs f → Selects c.schedule c.lists (selection_by c.schedule c.lists f)
  selects-by None l = ((l, refl), refl)
  selects-by (Some place) l =
      let p = pick_of (in_schedule c.schedule) (supply_in c.lists) in selects_at place l p p.found picked

  pub selects : SelectsIn c (select_of c)
  selects = record {
    outcome = refl;
    takes = record {
      selects = selects-by (place_from c.lists.jobs 16 0) (place-from c.lists.jobs 16 0 refl (λ q h. absurd (omega arith)));
      leaves = refl;
    };
  }

-- ---- every call

-- what a call answers and leaves
abbrev pub reply_of : Cell → Call → Reply
reply_of c (Deck bytes) = Entered (deck_outcome bytes)
reply_of c Select = Chosen (select_of c).outcome (select_of c).selection
reply_of c (Do x) = Said (acted c x).answer
reply_of c (Release id) = Said (releasing c id).answer
reply_of c (Delete id) = Said (deleting c id).answer
reply_of c (Status j p) = Shown (status_of c j p)
reply_of c (Key message) = told_reply (heeded c (read_message message).asks (read_message message).id).told

abbrev pub cell_after : Cell → Call → Cell
cell_after c (Deck bytes) = cell_of (deck_schedule c.schedule bytes) c.lists
cell_after c Select = (select_of c).cell
cell_after c (Do x) = (acted c x).cell
cell_after c (Release id) = (releasing c id).cell
cell_after c (Delete id) = (deleting c id).cell
cell_after c (Status j p) = c
cell_after c (Key message) = (heeded c (read_message message).asks (read_message message).id).cell

-- WHATEVER THE CONTRACTS ALLOW IS WHAT IS COMPUTED
pub does-computed : (c d : Cell) (x : Call) (reply : Reply) → sized c ≡ true → Does c x reply d → (reply ≡ reply_of c x) × (d ≡ cell_after c x)
does-computed c d (Deck bytes) reply s h =
    let e = h.2.1.0 in
    let k : h.2.0.cell.schedule ≡ deck_schedule c.schedule bytes = e.deck.then in
    let l : h.2.0.cell.lists ≡ c.lists = e.lists in
    (h.2.1.1.0 ∙ ap Entered e.deck.outcome, h.2.1.1.1 ∙ λ i. record { schedule = k i; lists = l i })
does-computed c d Select reply s h =
    let e = selects-in-one c h.0 (select_of c) h.1.0 (selects c s) in
    (h.1.1.0 ∙ ap (λ (r : SelectAnswer). Chosen r.outcome r.selection) e, h.1.1.1 ∙ ap (λ (r : SelectAnswer). r.cell) e)
does-computed c d (Do x) reply s h = h
does-computed c d (Release id) reply s h = h
does-computed c d (Delete id) reply s h = h
does-computed c d (Status j p) reply s h = h
does-computed c d (Key message) reply s h =
    let e = h.2.1.0.does in
    (h.2.1.1.0 ∙ ap (λ (x : Heeded). told_reply x.told) e, h.2.1.1.1 ∙ ap (λ (x : Heeded). x.cell) e)
