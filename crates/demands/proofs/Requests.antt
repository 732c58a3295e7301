-- WHICH CALLS LEAVE THE SCHEDULE AS IT IS: submissions, starts, and completions that empty no place; and what an end
-- does that does not empty its place at once. Assumes nothing.
use Rattle.std.proofs.Common.{Err, Ok, Some}
use Prim.Native.Nat.{ℕ}
use mathlib.Core.Path.{◌≡◌, refl, sym, ap, ◌∙◌}
use mathlib.Core.Bool.{Bool, true, false, cond}
use mathlib.Core.Option.{Option, none, some}
use Rattle.numbers.proofs.Tests.{by_bool, never, both}
use Rattle.numbers.specs.declared.ChannelNumber.{ChannelNumber}
use Rattle.numbers.specs.declared.UnitNumber.{UnitNumber}
use Rattle.schedule_list.specs.declared.Schedule.{Schedule}
use Rattle.schedule.specs.Calls as Schedules
use Rattle.numbers.specs.Elements.{find}
use Rattle.packets.specs.Rules as Rules
use Rattle.packets.specs.Rules.{closed, closing, finished, is_done, leaving_as, return_if_done}
use Rattle.packets.specs.State.{State, is_closing, is_empty, motion_on, state_in, Motion, Verdict}
use Rattle.packets.specs.declared.Act.{Act}
use Rattle.packets.specs.declared.Act.TheVariants as Act'
use Rattle.packets.specs.declared.How.{How}
use Rattle.packets.specs.declared.JobState.TheVariants.{Empty}
use Rattle.packets.specs.declared.Leaving.TheVariants.{Stays}
use Rattle.packets.specs.declared.Spot.{Spot}
use Rattle.lists.specs.Outcomes.{outcome, settled}
use Rattle.packets.proofs.Laws.{eqb-self}
use Rattle.packets.proofs.States.{states-finished, states-returned}
use Rattle.packets.proofs.Steps.{busy-of, closing-not-running}
use Rattle.packets.proofs.Told.{completes-on}
use Rattle.cell.specs.Calls.{acted, followed, left_by}
use Rattle.cell.specs.declared.Cell.{Cell}
use Rattle.cell_history.specs.Told.{inside}
use Rattle.cell_history.specs.History.{Do, Does, Reply}
use Rattle.demands.specs.Refusing.{refusal_in}
use Rattle.demands.proofs.Accepted.{accepted-is}
use Rattle.demands.proofs.StatesKept.{by-refusal}
use Rattle.demands.proofs.Places.{closing-live, schedule-after}

-- a return after which the place is closing still was none
not-returned : (s : State) (j : ℕ) (e : Bool) → state_in (return_if_done j s).jobs j ≡ closing e → is_done s j ≡ false
not-returned s j e c =
    by_bool (is_done s j)
    (λ t. let z : state_in (Rules.returned s j).jobs j ≡ Empty = states-returned s j t j ∙ rw (eqb-self j) refl in
    let y : state_in (Rules.returned s j).jobs j ≡ closing e = rw t at c in
    absurd (never (ap is_empty z) (ap is_empty y ∙ (closing-live e).0)))
    (λ t. t)

pub closes-so : (c d : Cell) (j : ℕ) (e : Bool) (reply : Reply) → Does c (Do (Act'.End j e)) reply d → state_in (inside d).jobs j ≡ closing e
    → refusal_in reply ≡ none
    → d.schedule ≡ Schedules.closing c.schedule j
unfolding Rules.accept Rules.answer
closes-so c d j e reply h is ok =
    let a = accepted-is c d (Act'.End j e) reply h ok in
    let s₁ = closed (inside c) j e in
    let n : is_done s₁ j ≡ false = not-returned s₁ j e (sym (ap (λ (x : State). state_in x.jobs j) a.1) ∙ is) in
    schedule-after c d (Act'.End j e) h.1 a.0
    ∙ ap (λ (b : Bool). left_by (cond b (leaving_as (state_in s₁.jobs j)) Stays) c.schedule j (Schedules.closing c.schedule j)) n

-- a call that the schedule does not follow, whatever it answers
unmoved : (c d : Cell) (x : Act) → d ≡ (acted c x).cell → ((s : Schedule) → followed s (Rules.answer (inside c) (Rules.Do x)) ≡ s)
    → d.schedule ≡ c.schedule
unfolding acted outcome
unmoved c d x e same = ap (λ (z : Cell). z.schedule) e ∙ go (Rules.refusal (inside c) (Rules.Do x))
  where
    go : (v : Verdict) → followed c.schedule (settled c.lists (Rules.Do x) v).answer ≡ c.schedule
    go (Ok u) = same c.schedule
    go (Err n) = refl

begins-unmoved : (t : State) (o : Option ℕ) (s : Schedule) → followed s (Rules.begins t o) ≡ s
begins-unmoved t none s = refl
begins-unmoved t (some e) s = refl

pub submits-so : (c d : Cell) (j p f : ℕ) (k : ChannelNumber) (w : Spot) (reply : Reply) → Does c (Do (Act'.Submit j p f k w)) reply d
    → d.schedule ≡ c.schedule
submits-so c d j p f k w reply h = unmoved c d (Act'.Submit j p f k w) h.1 (unfold Rules.answer in λ s. refl)

pub starts-so : (c d : Cell) (k : ChannelNumber) (reply : Reply) → Does c (Do (Act'.Start k)) reply d → d.schedule ≡ c.schedule
starts-so c d k reply h =
    unmoved c d (Act'.Start k) h.1
    (unfold Rules.answer in begins-unmoved (inside c) (find (Rules.startable (inside c) k.0) (inside c).queue))

pub returns-so : (c d : Cell) (j : ℕ) (k : ChannelNumber) (u : UnitNumber) (reply : Reply) → Does c (Do (Act'.Return j k u)) reply d
    → d.schedule ≡ c.schedule
returns-so c d j k u reply h = unmoved c d (Act'.Return j k u) h.1 (unfold Rules.answer in λ s. refl)

-- a place that is done was closing, and is empty when it has returned
left_alone : (s : State) (j : ℕ) → is_empty (state_in (return_if_done j s).jobs j) ≡ is_empty (state_in s.jobs j) → is_done s j ≡ false
left_alone s j e =
    by_bool (is_done s j)
    (λ t. let x : state_in (Rules.returned s j).jobs j ≡ Empty = states-returned s j t j ∙ rw (eqb-self j) refl in
    let z : is_empty (state_in (Rules.returned s j).jobs j) ≡ true = ap is_empty x in
    let y : is_empty (state_in (Rules.returned s j).jobs j) ≡ is_empty (state_in s.jobs j) = rw t at e in
    absurd (never (sym y ∙ z) (closing-not-running (state_in s.jobs j) (both (is_closing (state_in s.jobs j)) _ t).0).1))
    (λ t. t)

pub completes-so : (c d : Cell) (q : ChannelNumber) (how : How) (reply : Reply) → Does c (Do (Act'.Complete q how)) reply d
    → ((place : ℕ) → is_empty (state_in (inside d).jobs place) ≡ is_empty (state_in (inside c).jobs place)) → d.schedule ≡ c.schedule
unfolding Rules.accept Rules.answer
completes-so c d q how reply h same =
    let k = q.0 in
    by-refusal c d (Do (Act'.Complete q how)) reply h (λ x. x.schedule ≡ c.schedule) refl
    (λ ok. let s = inside c in
    let a = accepted-is c d (Act'.Complete q how) reply h ok in
    let o = busy-of (motion_on s k) (completes-on s k how a.0).1 in
    let j = o.0 in
    let s₁ = finished s k how j o.1 in
    let i : inside d ≡ Rules.completed s k how (Some (j, o.1)) = a.1 ∙ ap (Rules.completed s k how) o.2 in
    let n : is_done s₁ j ≡ false =
    left_alone s₁ j (sym (ap (λ (x : State). is_empty (state_in x.jobs j)) i) ∙ same j ∙ ap is_empty (sym (states-finished s k how j o.1 j))) in
    schedule-after c d (Act'.Complete q how) h.1 a.0
    ∙ ap (λ (m : Motion). followed c.schedule (Rules.completes s k how m)) o.2
    ∙ ap (λ (b : Bool). left_by (cond b (leaving_as (state_in s₁.jobs j)) Stays) c.schedule j c.schedule) n)
