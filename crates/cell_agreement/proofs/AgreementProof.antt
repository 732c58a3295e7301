-- SCHEDULE AND PLACES AGREE, call by call: a selection puts a waiting request into the empty place that its job
-- takes, the calls on the request lists keep the agreement, and the calls on the schedule alone touch no request
-- whose job runs or closes. Assumes nothing.
use Prim.Native.Nat.{ℕ, ◌<◌}
use mathlib.Core.Path.{◌≡◌, refl, sym, ap, subst, ◌∙◌}
use mathlib.Core.Bool.{true, not, ◌&&◌}
use mathlib.Core.List.{List}
use native.Mathlib.Decide.{dec_lt}
use native.Mathlib.Omega.{arith}
use lib.ListN.{length}
use borrow.Author.Tests.{eq-eqb}
use Rattle.numbers.proofs.Tests.{both}
use Rattle.schedule_entries.specs.Entries.{in_place, serial, waiting}
use Rattle.schedule_entries.specs.declared.Entry.{Entry}
use Rattle.schedule_entries.specs.declared.State.{State as RequestState}
use Rattle.schedule_entries.specs.declared.State.TheVariants as Request
use Rattle.schedule_list.specs.InSchedule.{entry_at, in_schedule, schedule_of}
use Rattle.schedule_list.specs.declared.Schedule.{Schedule}
use Rattle.schedule.specs.Calls as Schedules
use Rattle.schedule_candidates.specs.Candidates.{candidate, lower_stands, running, running_alone}
use Rattle.channels.specs.declared.Configuration.{Configuration}
use Rattle.packets.specs.History.{empty_place, fresh}
use Rattle.packets.proofs.Inv.{Inv}
use Rattle.packets.specs.Rules as Rules
use Rattle.packets.specs.Rules.{accept, step}
use Rattle.packets.specs.State.{State, is_closing, state_in}
use Rattle.packets.proofs.Steps.{fresh-state}
use Rattle.packets.proofs.Store.{state-fresh}
use Rattle.packets.specs.declared.Act.{Act}
use Rattle.packets.specs.declared.Answer.{Answer}
use Rattle.packets.specs.declared.JobState.{JobState}
use Rattle.packets.specs.declared.JobState.TheVariants.{ClosingError, ClosingNormal, Empty, Running}
use Rattle.packets.specs.declared.Lists.{Lists}
use Rattle.lists.proofs.History.{outcome-is}
use Rattle.lists.specs.Outcomes.{outcome, state_of}
use Rattle.cell_selection.specs.Selecting as Selecting
use Rattle.cell_selection.specs.Selecting.{Selected, SelectsBy, assignment_of, is_job, taking_of}
use Rattle.cell_selection.specs.declared.Choice.{Choice}
use Rattle.cell_selection.specs.declared.Choice.TheVariants.{Job, NoPlace, NoCandidates, Lacks}
use Rattle.cell_selection.proofs.SelectingLaws.{taking-granted}
use Rattle.cell_selection.specs.declared.Selection.{Selection}
use Rattle.cell.specs.Calls.{acted, followed, fresh_cell}
use Rattle.cell.specs.declared.Cell.{Cell}
use Rattle.cell_history.proofs.MeantLaws.{Plain, by-meant}
use Rattle.cell_history.proofs.Reaching.{by-history, reached-inv}
use Rattle.cell_history.specs.Told.{inside}
use Rattle.cell_history.specs.History.{Call, Deck, Delete, Do, Does, Key, Release, Reply, Select, Status}
use Rattle.cell_agreement.specs.Agreement.{AgreesAlways, HasItsJob, standing}
use Rattle.cell_agreement.proofs.PlaceLaws.{states-beyond}
use Rattle.cell_agreement.proofs.ScheduleLaws.{kept-deck, kept-deleted, kept-released, put-taken, seen}
use Rattle.cell_agreement.proofs.StandingLaws.{is-alone, not_none}
use Rattle.cell_agreement.proofs.StepLaws.{Agree, agree-kept, agree-put, agree-step, stands-empty}

-- ---- a selection

candidate-waits : (es : List Entry) (e : Entry) → candidate es e ≡ true → waiting e.state ≡ true
unfolding candidate
candidate-waits es e h =
    (both (waiting e.state) (not (lower_stands es e) && (not (running_alone es) && not (serial e.request && running es))) h).0

module _ (s : Schedule) (lists : Lists) (I : Inv (state_of lists)) (A : Agree s (state_of lists)) where
  agree-taken : (r : Selection) → Selected (in_schedule s) lists r
      → Agree (Schedules.taken s r.at r.place) (state_of (outcome lists (taking_of r)).lists)
  agree-taken r h =
      let asg = assignment_of r.request.facilities r.assigned in
      rw (outcome-is lists (taking_of r)).1 (unfold step accept in
      rw (taking-granted s lists r h)
      (agree-put r.place Running s (Schedules.taken s r.at r.place) (state_of lists) (Rules.assigned (state_of lists) r.place asg)
      (put-taken s r.at r.place h.fit.candidate.0 (candidate-waits (in_schedule s) (entry_at (in_schedule s) r.at) h.fit.candidate.1)
      (A r.place ∙ stands-empty (state_in lists.jobs r.place) r.place h.place.1.0))
      (λ j. state-fresh lists.jobs r.place asg j (rw I.places h.place.0))
      (λ j q. A j)))

  agree-select : (choice : Choice) (r : Selection) → SelectsBy choice (in_schedule s) lists r
      → Agree (Selecting.left_by (is_job choice) s lists r).0 (state_of (Selecting.left_by (is_job choice) s lists r).1)
  agree-select Job r h = agree-taken r h
  agree-select NoPlace r h = A
  agree-select NoCandidates r h = A
  agree-select (Lacks part) r h = A

-- ---- the calls on the cell

abbrev AgreeIn : Cell → Type 0
AgreeIn c = Agree c.schedule (inside c)

agree-acts : (c d : Cell) (x : Act) → d ≡ (acted c x).cell → AgreeIn c → AgreeIn d
unfolding acted
agree-acts c d x e A =
    let is = outcome-is c.lists (Rules.Do x) in
    subst AgreeIn (sym e)
    (λ j. ap (λ (a : Answer). seen j (followed c.schedule a)) is.0
    ∙ agree-step c.schedule (inside c) A x j
    ∙ ap (λ (st : State). standing (state_in st.jobs j) j) (sym is.1))

plain-agree : (c d : Cell) (x : Call) (reply : Reply) → Plain x → Does c x reply d → Inv (inside c) → AgreeIn c → AgreeIn d
plain-agree c d (Deck bytes) reply p h I A =
    subst AgreeIn (sym h.2.1.1.1)
    (agree-kept c.schedule h.2.0.cell.schedule (inside c) (inside h.2.0.cell)
    (λ j. ap (seen j) h.2.1.0.deck.then ∙ kept-deck j c.schedule bytes) (λ j. rw h.2.1.0.lists) A)
plain-agree c d Select reply p h I A =
    let r = h.0 in
    subst AgreeIn (sym h.1.1.1)
    (subst (λ (t : Schedule × Lists). Agree t.0 (state_of t.1)) (sym h.1.0.takes.leaves)
    (agree-select c.schedule c.lists I A r.selection.choice r.selection h.1.0.takes.selects))
plain-agree c d (Do x) reply p h I A = agree-acts c d x h.1 A
plain-agree c d (Release id) reply p h I A =
    subst AgreeIn (sym h.1)
    (agree-kept c.schedule (Schedules.released c.schedule id).schedule (inside c) (inside c) (λ j. kept-released j c.schedule id)
    (λ j. refl) A)
plain-agree c d (Delete id) reply p h I A =
    subst AgreeIn (sym h.1)
    (agree-kept c.schedule (Schedules.deleted c.schedule id).schedule (inside c) (inside c) (λ j. kept-deleted j c.schedule id)
    (λ j. refl) A)
plain-agree c d (Status place packet) reply p h I A = subst AgreeIn (sym h.1) A
plain-agree c d (Key message) reply p h I A = absurd p

-- a message does what the call does that it is
agree-does : (c d : Cell) (x : Call) (reply : Reply) → Does c x reply d → Inv (inside c) → AgreeIn c → AgreeIn d
agree-does c d x reply h I A = by-meant (λ o. AgreeIn d) c d reply (λ e. subst AgreeIn (sym e) A) (λ y p k. plain-agree c d y reply p k I A) x h

-- ---- a history

agree_fresh : (configuration : Configuration) → AgreeIn (fresh_cell configuration)
unfolding fresh_cell fresh schedule_of
agree_fresh configuration j = ap (λ (x : JobState). standing x j) (sym (fresh-state 16 empty_place refl j))

-- ---- what the agreement says of one request

module _ (s : Schedule) (st : State) (I : Inv st) (A : Agree s st) (k : ℕ) (h : k < length (in_schedule s)) where
  -- it is in a place that there is
  inside-place : (p : ℕ) → in_place p (entry_at (in_schedule s) k).state ≡ true → p < 16
  inside-place p i =
      elim (dec_lt p 16) [
        | yes q ↦ q
        | no q ↦ absurd (not_none p k (in_schedule s) h i (A p ∙ ap (λ (x : JobState). standing x p) (states-beyond st I p (omega arith))))
      ]

  runs-there : (p : ℕ) → (entry_at (in_schedule s) k).state ≡ Request.Running p → state_in st.jobs p ≡ Running
  runs-there p e = by (state_in st.jobs p) (A p)
    where
      i : in_place p (entry_at (in_schedule s) k).state ≡ true
      i = rw e (eq-eqb p p refl)

      by : (t : JobState) → seen p s ≡ standing t p → t ≡ Running
      by Empty a = absurd (not_none p k (in_schedule s) h i a)
      by Running a = refl
      by ClosingNormal a = let z : Request.Running p ≡ Request.Closing p = sym e ∙ is-alone p k (Request.Closing p) (in_schedule s) h i a in cc
      by ClosingError a = let z : Request.Running p ≡ Request.Closing p = sym e ∙ is-alone p k (Request.Closing p) (in_schedule s) h i a in cc

  closes-there : (p : ℕ) → (entry_at (in_schedule s) k).state ≡ Request.Closing p → is_closing (state_in st.jobs p) ≡ true
  closes-there p e = by (state_in st.jobs p) (A p)
    where
      i : in_place p (entry_at (in_schedule s) k).state ≡ true
      i = rw e (eq-eqb p p refl)

      by : (t : JobState) → seen p s ≡ standing t p → is_closing t ≡ true
      by Empty a = absurd (not_none p k (in_schedule s) h i a)
      by Running a = let z : Request.Closing p ≡ Request.Running p = sym e ∙ is-alone p k (Request.Running p) (in_schedule s) h i a in cc
      by ClosingNormal a = refl
      by ClosingError a = refl

  has-its-job : HasItsJob st.jobs (entry_at (in_schedule s) k).state
  has-its-job = by (entry_at (in_schedule s) k).state refl
    where
      by : (x : RequestState) → (entry_at (in_schedule s) k).state ≡ x → HasItsJob st.jobs x
      by Request.Waiting e = tt
      by Request.Suspended e = tt
      by (Request.Running p) e = (inside-place p (rw e (eq-eqb p p refl)), runs-there p e)
      by (Request.Closing p) e = (inside-place p (rw e (eq-eqb p p refl)), closes-there p e)

pub agrees-always : AgreesAlways
agrees-always configuration es c r =
    let I = reached-inv configuration es c r in
    let A : AgreeIn c =
    by-history configuration AgreeIn (λ d b. subst AgreeIn (sym b) (agree_fresh configuration))
    (λ before d h B e x reply k. agree-does d e x reply k (reached-inv configuration before d h) B) es c r in
    record {
      places = λ j k. A j;
      beyond = λ j k. A j ∙ ap (λ (x : JobState). standing x j) (states-beyond (inside c) I j k);
      requests = λ k g. has-its-job c.schedule (inside c) I A k g;
    }
