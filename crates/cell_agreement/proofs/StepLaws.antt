-- What each call on the request lists leaves agrees: an end lets the request and the place close, a return empties
-- both, and every other call, refused or not, leaves both as they are. Assumes nothing.
use Rattle.std.proofs.Common.{Err, Ok}
use Prim.Native.Nat.{ℕ}
use mathlib.Core.Path.{◌≡◌, refl, sym, ap, ◌∙◌}
use mathlib.Core.Bool.{Bool, true, false, cond}
use mathlib.Core.List.{[], ◌∷◌}
use mathlib.Core.Option.{Option, none, some}
use lib.Dec.{eqb}
use borrow.Author.Tests.{eqb-true}
use Rattle.numbers.proofs.Tests.{by_bool, never}
use Rattle.schedule_entries.specs.declared.State.{State as RequestState}
use Rattle.schedule_entries.specs.declared.State.TheVariants as Request
use Rattle.schedule_list.specs.declared.Schedule.{Schedule}
use Rattle.schedule.specs.Calls as Schedules
use Rattle.packets.proofs.Laws.{and_left}
use Rattle.numbers.specs.Elements.{find}
use Rattle.packets.specs.Rules as Rules
use Rattle.packets.specs.Rules.{
  Do,
  accept,
  answer,
  begins,
  closed,
  closing,
  completed,
  completes,
  decided,
  ended,
  finished,
  is_done,
  leaving,
  leaving_as,
  refusal,
  return_if_done,
  returned,
  startable,
  started,
  step,
}
use Rattle.packets.proofs.ByNumber.{Complete, End}
use Rattle.packets.specs.declared.Act.{Act}
use Rattle.packets.specs.declared.Act.TheVariants as Act'
use Rattle.packets.specs.State.{State, is_closing, is_empty, is_running, motion_on, state_in, Verdict}
use Rattle.packets.proofs.Steps.{busy-of}
use Rattle.packets.proofs.Told.{completes-on, ends_of}
use Rattle.packets.specs.declared.Answer.TheVariants.{Closed}
use Rattle.packets.specs.declared.How.{How}
use Rattle.packets.specs.declared.JobState.{JobState}
use Rattle.packets.specs.declared.JobState.TheVariants.{ClosingError, ClosingNormal, Empty, Running}
use Rattle.packets.specs.declared.Site.TheVariants.{AtUnit}
use Rattle.packets.specs.declared.Spot.{Spot}
use Rattle.cell.specs.Calls.{followed, left_by}
use Rattle.cell_agreement.specs.Agreement.{standing}
use Rattle.packets.proofs.States.{states-begun, states-closed, states-finished, states-handed, states-returned, states-submit}
use Rattle.cell_agreement.proofs.ScheduleLaws.{Put, put-closing, put-returned, seen}

-- ---- what stands in a place, by its state

pub stands-empty : (t : JobState) (j : ℕ) → is_empty t ≡ true → standing t j ≡ []
stands-empty Empty j e = refl
stands-empty Running j e = never e refl
stands-empty ClosingNormal j e = never e refl
stands-empty ClosingError j e = never e refl

stands-running : (t : JobState) (j : ℕ) → is_running t ≡ true → standing t j ≡ Request.Running j ∷ []
stands-running Empty j e = never e refl
stands-running Running j e = refl
stands-running ClosingNormal j e = never e refl
stands-running ClosingError j e = never e refl

stands-closing : (t : JobState) (j : ℕ) → is_closing t ≡ true → standing t j ≡ Request.Closing j ∷ []
stands-closing Empty j e = never e refl
stands-closing Running j e = never e refl
stands-closing ClosingNormal j e = refl
stands-closing ClosingError j e = refl

closing-closes : (e : Bool) → is_closing (closing e) ≡ true
closing-closes true = refl
closing-closes false = refl

-- ---- a schedule and a state agree, in every place and past the last

abbrev pub Stands : Schedule → State → ℕ → Type 0
Stands s st j = seen j s ≡ standing (state_in st.jobs j) j

abbrev pub Agree : Schedule → State → Type 0
Agree s st = (j : ℕ) → Stands s st j

-- neither changes
pub agree-kept : (s t : Schedule) (st after : State) → ((j : ℕ) → seen j t ≡ seen j s)
    → ((j : ℕ) → state_in after.jobs j ≡ state_in st.jobs j) → Agree s st → Agree t after
agree-kept s t st after e d A j = e j ∙ A j ∙ ap (λ (x : JobState). standing x j) (sym (d j))

-- both change in one place
pub agree-put : (place : ℕ) (x : JobState) (s t : Schedule) (st after : State) → Put place (standing x place) s t
    → ((j : ℕ) → state_in after.jobs j ≡ cond (eqb j place) x (state_in st.jobs j))
    → ((j : ℕ) → eqb j place ≡ false → Stands s st j) → Agree t after
agree-put place x s t st after P S A j =
    P j
    ∙ by_bool (eqb j place) (λ q. rw q (ap (standing x) (sym (eqb-true j place q)))) (λ q. rw q (A j q))
    ∙ ap (λ (y : JobState). standing y j) (sym (S j))

-- ---- a return, if the job is done: schedule and place are cleared together, else the other schedule stays

module _ (s other : Schedule) (st : State) (j : ℕ) (y : RequestState) (one : seen j s ≡ y ∷ []) where
  gone : (t : JobState) → is_closing t ≡ true → Put j [] s (left_by (leaving_as t) s j other)
  gone Empty e = never e refl
  gone Running e = never e refl
  gone ClosingNormal e = put-returned s j y false one
  gone ClosingError e = put-returned s j y true one

  agree_left : is_done st j ≡ true → ((i : ℕ) → eqb i j ≡ false → Stands s st i) → Agree (left_by (leaving j st) s j other) (return_if_done j st)
  agree_left d A =
      rw d
      (agree-put j Empty s (left_by (leaving_as (state_in st.jobs j)) s j other) st (returned st j)
      (gone (state_in st.jobs j) (and_left (is_closing (state_in st.jobs j)) _ d)) (states-returned st j d) A)

-- ---- what an accepted call leaves

module _ (s : Schedule) (st : State) (A : Agree s st) where
  agree-submit : (j p f c : ℕ) (w : Spot) → Agree s (Rules.submitted st j p f c w)
  agree-submit j p f c w = agree-kept s s st (Rules.submitted st j p f c w) (λ i. refl) (states-submit st j p f c w) A

  agree-start : (c : ℕ) (o : Option ℕ) → Agree (followed s (begins st o)) (started st c o)
  agree-start c none = A
  agree-start c (some e) = agree-kept s s st (Rules.begun st c e) (λ i. refl) (states-begun st c e) A

  agree-completed : (c : ℕ) (how : How) (j p : ℕ) → Agree (left_by (leaving j (finished st c how j p)) s j s) (return_if_done j (finished st c how j p))
  agree-completed c how j p =
      let after = finished st c how j p in
      let B : Agree s after = agree-kept s s st after (λ i. refl) (states-finished st c how j p) A in
      by_bool (is_done after j)
      (λ d. agree_left s s after j (Request.Closing j)
      (B j ∙ stands-closing (state_in after.jobs j) j (and_left (is_closing (state_in after.jobs j)) _ d)) d (λ i q. B i))
      (λ d. rw d B)

  agree-complete : (c : ℕ) (how : How) → refusal st (Complete c how) ≡ Ok tt
      → Agree (followed s (completes st c how (motion_on st c))) (completed st c how (motion_on st c))
  agree-complete c how r =
      let o = busy-of (motion_on st c) (completes-on st c how r).1 in
      rw o.2 (agree-completed c how o.0 o.1)

  agree-end : (j : ℕ) (e : Bool) → refusal st (End j e) ≡ Ok tt → Agree (followed s (Closed j (leaving j (closed st j e)))) (ended st j e)
  agree-end j e r =
      let run = ends_of st j e r in
      let one : seen j s ≡ Request.Running j ∷ [] = A j ∙ stands-running (state_in st.jobs j) j run in
      let shut : standing (closing e) j ≡ Request.Closing j ∷ [] = stands-closing (closing e) j (closing-closes e) in
      let B : Agree (Schedules.closing s j) (closed st j e) =
      agree-put j (closing e) s (Schedules.closing s j) st (closed st j e)
      (rw shut (put-closing s j (Request.Running j) one)) (states-closed st j e run) (λ i q. A i) in
      by_bool (is_done (closed st j e) j)
      (λ d. agree_left s (Schedules.closing s j) (closed st j e) j (Request.Running j) one d
      (λ i q. A i ∙ ap (λ (x : JobState). standing x i) (sym (rw q at (states-closed st j e run i)))))
      (λ d. rw d B)

  -- AN ACCEPTED CALL, and the schedule that follows its answer
  agree-accept : (x : Act) → refusal st (Do x) ≡ Ok tt → Agree (followed s (answer st (Do x))) (accept st (Do x))
  unfolding accept answer
  agree-accept (Act'.Submit j p f c w) r = agree-submit j p f c.0 w
  agree-accept (Act'.Start c) r = agree-start c.0 (find (startable st c.0) st.queue)
  agree-accept (Act'.Complete c how) r = agree-complete c.0 how r
  agree-accept (Act'.End j e) r = agree-end j e r
  agree-accept (Act'.Return j c u) r =
      agree-kept s s st (Rules.handed_back st j c.0 (AtUnit u)) (λ i. refl) (states-handed st j c.0 (AtUnit u)) A
  agree-accept (Act'.Mark c u m on) r = agree-kept s s st (Rules.marked st c.0 u.0 m on) (λ i. refl) (λ i. refl) A

  -- a refused call changes nothing
  pub agree-step : (x : Act) → Agree (followed s (step st (Do x)).answer) (step st (Do x)).state
  agree-step x = unfold step in by (refusal st (Do x)) refl
    where
      by : (v : Verdict) → refusal st (Do x) ≡ v → Agree (followed s (decided st (Do x) v).answer) (decided st (Do x) v).state
      by (Ok u) r = agree-accept x r
      by (Err n) r = A
