-- WHAT CALLS MAKE OF PLACES AND OF THEIR REQUESTS, shown from what each call leaves: a job that ends is closing until
-- a call empties its place, and that call removes or suspends its request; a mark changes its unit alone. Assumes
-- nothing.
use Rattle.std.proofs.Common.{Ok, Some}
use Prim.Native.Nat.{ℕ}
use mathlib.Core.Path.{◌≡◌, refl, sym, ap, subst, ◌∙◌}
use mathlib.Core.Bool.{Bool, true, false}
use mathlib.Core.Logic.{◌⊎◌, inl, inr, ⊎_elim}
use mathlib.Core.Option.{none}
use native.Mathlib.Omega.{arith}
use lib.Dec.{eqb}
use borrow.Author.Tests.{eqb-true}
use Rattle.numbers.proofs.Tests.{by_bool, never, both}
use Rattle.numbers.specs.declared.ChannelNumber.{ChannelNumber}
use Rattle.numbers.specs.declared.UnitNumber.{UnitNumber}
use Rattle.units.specs.State.{marked_unit, unit_in, unit_set}
use Rattle.units.specs.declared.Mark.{Mark as UnitMark}
use Rattle.schedule_list.specs.declared.Schedule.{Schedule}
use Rattle.schedule.specs.Calls as Schedules
use Rattle.packets.specs.Rules as Rules
use Rattle.packets.specs.Rules.{closed, closing, finished, is_done, leaving, leaving_as, return_if_done}
use Rattle.packets.specs.State.{State, is_closing, is_empty, is_running, motion_on, state_in, Motion, Verdict}
use Rattle.packets.specs.declared.Act.{Act}
use Rattle.packets.specs.declared.Act.TheVariants as Act'
use Rattle.packets.specs.declared.How.{How}
use Rattle.packets.specs.declared.JobState.{JobState}
use Rattle.packets.specs.declared.JobState.TheVariants.{Empty, Running}
use Rattle.packets.proofs.Laws.{eqb-self}
use Rattle.packets.proofs.States.{states-closed, states-finished, states-returned}
use Rattle.packets.proofs.Steps.{busy-of}
use Rattle.packets.proofs.Told.{completes-on, ends_of}
use Rattle.lists.proofs.History.{outcome-is}
use Rattle.lists.specs.Outcomes.{outcome, settled}
use Rattle.cell.specs.Calls.{acted, cell_of, followed, left_by}
use Rattle.cell.specs.declared.Cell.{Cell}
use Rattle.keyboard.specs.Messages.{read_message}
use Rattle.cell_history.specs.Told.{inside}
use Rattle.cell_history.specs.History.{Call, Deck, Delete, Do, Does, Key, Release, Reply, Select, Status, meant}
use Rattle.demands.specs.Demands.{Ends, with_units}
use Rattle.demands.specs.Refusing.{refusal_in}
use Rattle.demands.proofs.Accepted.{accepted-is}
use Rattle.demands.proofs.StatesKept.{by-refusal, states-left, OtherBy, key-other, others_keep}

-- ---- what a completion and an end leave

-- the schedule after an accepted call of the lists
pub schedule-after : (c d : Cell) (x : Act) → d ≡ (acted c x).cell → Rules.refusal (inside c) (Rules.Do x) ≡ Ok tt
    → d.schedule ≡ followed c.schedule (Rules.answer (inside c) (Rules.Do x))
unfolding acted Rules.step
schedule-after c d x e g =
    let y = Rules.Do x in
    ap (λ (z : Cell). z.schedule) e
    ∙ ap (followed c.schedule) ((outcome-is c.lists y).0 ∙ ap (λ (v : Verdict). (Rules.decided (inside c) y v).answer) g)

-- what is left of a request, by how its job is closing
left_as : (e : Bool) (s other : Schedule) (j : ℕ) → left_by (leaving_as (closing e)) s j other ≡ Schedules.returned s j e
left_as true s other j = refl
left_as false s other j = refl

pub closing-live : (e : Bool) → (is_empty (closing e) ≡ false) × (is_running (closing e) ≡ false)
closing-live true = (refl, refl)
closing-live false = (refl, refl)

-- it is closing so, or has returned
abbrev Over : Cell → ℕ → Bool → State → Schedule → Type 0
Over c place in_error s schedule =
    (state_in s.jobs place ≡ closing in_error) ⊎ ((state_in s.jobs place ≡ Empty) × (schedule ≡ Schedules.returned c.schedule place in_error))

over-left : (c : Cell) (s : State) (j : ℕ) (e : Bool) (other : Schedule) → state_in s.jobs j ≡ closing e
    → Over c j e (return_if_done j s) (left_by (leaving j s) c.schedule j other)
over-left c s j e other is =
    by_bool (is_done s j)
    (λ t. rw t (inr (
      states-returned s j t j ∙ rw (eqb-self j) refl,
      ap (λ (x : JobState). left_by (leaving_as x) c.schedule j other) is ∙ left_as e c.schedule other j,
    )))
    (λ t. rw t (inl is))

over-as : (c : Cell) (j : ℕ) (e : Bool) {s s' : State} {x x' : Schedule} → s ≡ s' → x ≡ x' → Over c j e s x → Over c j e s' x'
over-as c j e {s} {s'} {x} {x'} p q o = subst (λ (y : State). Over c j e y x') p (subst (λ (y : Schedule). Over c j e s y) q o)

module _ (c d : Cell) (reply : Reply) (ok : refusal_in reply ≡ none) (place : ℕ) (in_error : Bool) where
  abbrev Is : Type 0
  Is = Over c place in_error (inside d) d.schedule

  ended-complete : (q : ChannelNumber) (how : How) → Does c (Do (Act'.Complete q how)) reply d → state_in (inside c).jobs place ≡ closing in_error → Is
  unfolding Rules.accept Rules.answer
  ended-complete q how h e =
      let s = inside c in
      let k = q.0 in
      let a = accepted-is c d (Act'.Complete q how) reply h ok in
      let o = busy-of (motion_on s k) (completes-on s k how a.0).1 in
      let j = o.0 in
      let s₁ = finished s k how j o.1 in
      let i : inside d ≡ Rules.completed s k how (Some (j, o.1)) = a.1 ∙ ap (Rules.completed s k how) o.2 in
      let g : d.schedule ≡ left_by (leaving j s₁) c.schedule j c.schedule =
      schedule-after c d (Act'.Complete q how) h.1 a.0 ∙ ap (λ (m : Motion). followed c.schedule (Rules.completes s k how m)) o.2 in
      by_bool (eqb place j)
      (λ t. let r : j ≡ place = sym (eqb-true place j t) in
      let v : state_in s₁.jobs j ≡ closing in_error = states-finished s k how j o.1 j ∙ ap (state_in s.jobs) r ∙ e in
      subst (λ (n : ℕ). Over c n in_error (inside d) d.schedule) r
      (over-as c j in_error (sym i) (sym g) (over-left c s₁ j in_error c.schedule v)))
      (λ t. inl (ap (λ (x : State). state_in x.jobs place) i ∙ states-left s₁ j place t ∙ states-finished s k how j o.1 place ∙ e))

  ended-end : (j : ℕ) (b : Bool) → Does c (Do (Act'.End j b)) reply d → Ends c (Do (Act'.End j b)) place in_error → Is
  unfolding Rules.accept Rules.answer
  ended-end j b h en =
      let s = inside c in
      let a = accepted-is c d (Act'.End j b) reply h ok in
      let run = ends_of s j b a.0 in
      let s₁ = closed s j b in
      let g : d.schedule ≡ left_by (leaving j s₁) c.schedule j (Schedules.closing c.schedule j) =
      schedule-after c d (Act'.End j b) h.1 a.0 in
      ⊎_elim
      (λ q.
      let v : state_in s₁.jobs j ≡ closing b = states-closed s j b run j ∙ rw (eqb-self j) refl in
      let w : Over c j b (inside d) d.schedule =
      over-as c j b (sym a.1) (sym g) (over-left c s₁ j b (Schedules.closing c.schedule j) v) in
      let x : j ≡ place = cc in
      let y : b ≡ in_error = cc in
      subst (λ (n : ℕ). Over c n in_error (inside d) d.schedule) x (subst (λ (z : Bool). Over c j z (inside d) d.schedule) y w))
      (λ e.
      let n : eqb place j ≡ false =
      by_bool (eqb place j)
      (λ t. absurd (never (subst (λ (m : ℕ). is_running (state_in s.jobs m) ≡ true) (sym (eqb-true place j t)) run)
      (ap is_running e ∙ (closing-live in_error).1)))
      (λ t. t) in
      inl (ap (λ (x : State). state_in x.jobs place) a.1 ∙ states-left s₁ j place n ∙ states-closed s j b run place ∙ rw n e))
      en

  -- any other call leaves a closing place as it is
  ended-kept : (x : Call) → Does c x reply d → OtherBy (meant x) → (x ≡ Do (Act'.End place in_error) → ⊥) → Ends c x place in_error → Is
  ended-kept x h o not-it en =
      ⊎_elim (λ q. absurd (not-it q)) (λ e. inl (others_keep c d place (ap is_empty e ∙ (closing-live in_error).0) x reply h o ∙ e)) en

  pub ended_so : (x : Call) → Does c x reply d → Ends c x place in_error → Is
  ended_so (Deck bytes) h en = ended-kept (Deck bytes) h tt (λ q. let z : ◌≡◌ {A = ℕ} 0 1 = cc in omega arith) en
  ended_so Select h en = ended-kept Select h tt (λ q. let z : ◌≡◌ {A = ℕ} 0 1 = cc in omega arith) en
  ended_so (Do (Act'.Submit j p f k w)) h en = ended-kept (Do (Act'.Submit j p f k w)) h tt (λ q. let z : ◌≡◌ {A = ℕ} 0 1 = cc in omega arith) en
  ended_so (Do (Act'.Start k)) h en = ended-kept (Do (Act'.Start k)) h tt (λ q. let z : ◌≡◌ {A = ℕ} 0 1 = cc in omega arith) en
  ended_so (Do (Act'.Complete k how)) h en =
      ⊎_elim (λ q. absurd (let z : ◌≡◌ {A = ℕ} 0 1 = cc in omega arith)) (λ e. ended-complete k how h e) en
  ended_so (Do (Act'.End j b)) h en = ended-end j b h en
  ended_so (Do (Act'.Return j k u)) h en = ended-kept (Do (Act'.Return j k u)) h tt (λ q. let z : ◌≡◌ {A = ℕ} 0 1 = cc in omega arith) en
  ended_so (Do (Act'.Mark k u m on)) h en = ended-kept (Do (Act'.Mark k u m on)) h tt (λ q. let z : ◌≡◌ {A = ℕ} 0 1 = cc in omega arith) en
  ended_so (Release id) h en = ended-kept (Release id) h tt (λ q. let z : ◌≡◌ {A = ℕ} 0 1 = cc in omega arith) en
  ended_so (Delete id) h en = ended-kept (Delete id) h tt (λ q. let z : ◌≡◌ {A = ℕ} 0 1 = cc in omega arith) en
  ended_so (Status j p) h en = ended-kept (Status j p) h tt (λ q. let z : ◌≡◌ {A = ℕ} 0 1 = cc in omega arith) en
  ended_so (Key message) h en =
      ended-kept (Key message) h (key-other (read_message message).asks (read_message message).id)
      (λ q. let z : ◌≡◌ {A = ℕ} 0 1 = cc in omega arith) en

-- ---- a running job

module _ (c d : Cell) (reply : Reply) (place : ℕ) (e : state_in (inside c).jobs place ≡ Running) where
  not_done : (s : State) → state_in s.jobs place ≡ Running → is_done s place ≡ false
  not_done s r = by_bool (is_done s place) (λ t. absurd (never (both (is_closing (state_in s.jobs place)) _ t).0 (ap is_closing r))) (λ t. t)

  runs-left : (s : State) (j : ℕ) → state_in s.jobs place ≡ Running → state_in (return_if_done j s).jobs place ≡ Running
  runs-left s j r =
      by_bool (eqb place j)
      (λ t. subst (λ (n : ℕ). state_in (return_if_done n s).jobs place ≡ Running) (eqb-true place j t) (rw (not_done s r) r))
      (λ t. states-left s j place t ∙ r)

  kept : (x : Call) → Does c x reply d → OtherBy (meant x) → state_in (inside d).jobs place ≡ Running
  kept x h o = others_keep c d place (ap is_empty e) x reply h o ∙ e

  runs-complete : (q : ChannelNumber) (how : How) → Does c (Do (Act'.Complete q how)) reply d → state_in (inside d).jobs place ≡ Running
  unfolding Rules.accept
  runs-complete q how h =
      let k = q.0 in
      by-refusal c d (Do (Act'.Complete q how)) reply h (λ x. state_in (inside x).jobs place ≡ Running) e
      (λ ok. let s = inside c in
      let a = accepted-is c d (Act'.Complete q how) reply h ok in
      let o = busy-of (motion_on s k) (completes-on s k how a.0).1 in
      let s₁ = finished s k how o.0 o.1 in
      let i : inside d ≡ Rules.completed s k how (Some (o.0, o.1)) = a.1 ∙ ap (Rules.completed s k how) o.2 in
      let v : state_in s₁.jobs place ≡ Running = states-finished s k how o.0 o.1 place ∙ e in
      ap (λ (x : State). state_in x.jobs place) i ∙ runs-left s₁ o.0 v)

  runs-end : (j : ℕ) (b : Bool) → Does c (Do (Act'.End j b)) reply d → (Do (Act'.End j b) ≡ Do (Act'.End place b) → ⊥)
      → state_in (inside d).jobs place ≡ Running
  unfolding Rules.accept
  runs-end j b h n =
      by-refusal c d (Do (Act'.End j b)) reply h (λ x. state_in (inside x).jobs place ≡ Running) e
      (λ ok.
      let s = inside c in
      let a = accepted-is c d (Act'.End j b) reply h ok in
      let f : eqb place j ≡ false =
      by_bool (eqb place j) (λ t. absurd (n (ap (λ (m : ℕ). Do (Act'.End m b)) (sym (eqb-true place j t))))) (λ t. t) in
      ap (λ (x : State). state_in x.jobs place) a.1 ∙ states-left (closed s j b) j place f
      ∙ states-closed s j b (ends_of s j b a.0) place ∙ rw f e)

  pub runs_on : (x : Call) → Does c x reply d → ((in_error : Bool) → x ≡ Do (Act'.End place in_error) → ⊥) → state_in (inside d).jobs place ≡ Running
  runs_on (Deck bytes) h n = kept (Deck bytes) h tt
  runs_on Select h n = kept Select h tt
  runs_on (Do (Act'.Submit j p f k w)) h n = kept (Do (Act'.Submit j p f k w)) h tt
  runs_on (Do (Act'.Start k)) h n = kept (Do (Act'.Start k)) h tt
  runs_on (Do (Act'.Complete k how)) h n = runs-complete k how h
  runs_on (Do (Act'.End j b)) h n = runs-end j b h (n b)
  runs_on (Do (Act'.Return j k u)) h n = kept (Do (Act'.Return j k u)) h tt
  runs_on (Do (Act'.Mark k u m on)) h n = kept (Do (Act'.Mark k u m on)) h tt
  runs_on (Release id) h n = kept (Release id) h tt
  runs_on (Delete id) h n = kept (Delete id) h tt
  runs_on (Status j p) h n = kept (Status j p) h tt
  runs_on (Key message) h n = kept (Key message) h (key-other (read_message message).asks (read_message message).id)

-- ---- a mark

pub marked-so : (c d : Cell) (k : ChannelNumber) (u : UnitNumber) (m : UnitMark) (on : Bool) (reply : Reply)
    → Does c (Do (Act'.Mark k u m on)) reply d → refusal_in reply ≡ none
    → let units = c.lists.units.of in
    d ≡ with_units c (unit_set units k.0 u.0 (marked_unit m on (unit_in units k.0 u.0)))
unfolding acted outcome Rules.accept Rules.answer
marked-so c d k u m on reply h ok =
    let y = Rules.Do (Act'.Mark k u m on) in
    h.1
    ∙ ap (λ (v : Verdict). cell_of (followed c.schedule (settled c.lists y v).answer) (settled c.lists y v).lists)
    (accepted-is c d (Act'.Mark k u m on) reply h ok).0
