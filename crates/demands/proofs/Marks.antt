-- WHAT NO CALL CHANGES: what a channel has, the codes that set interlock, and but for a mark call the marks of a unit;
-- shown of the rules' steps, and so of the cell's calls. And what an accepted call answers. Assumes nothing.
use Rattle.std.proofs.Common.{Err, None, Ok, Some}
use Prim.Native.Nat.{ℕ}
use mathlib.Core.Path.{◌≡◌, refl, sym, ap, ◌∙◌}
use mathlib.Core.Bool.{Bool, true, false, ◌&&◌}
use mathlib.Core.List.{List, [], ◌∷◌}
use mathlib.Core.Logic.{◌⊎◌, ⊎_elim}
use mathlib.Core.Option.{Option, none, some}
use native.Mathlib.Omega.{arith}
use lib.Dec.{eqb}
use Rattle.numbers.proofs.Tests.{by_bool}
use Rattle.numbers.specs.declared.ChannelNumber.{ChannelNumber}
use Rattle.cell.specs.Calls.{Outcome, answer_of}
use Rattle.numbers.specs.declared.UnitNumber.{UnitNumber}
use Rattle.units.specs.State.{assignable, is_returning, unit_in}
use Rattle.units.specs.declared.Holder.{Holder}
use Rattle.units.specs.declared.Holder.TheVariants.{Free}
use Rattle.units.specs.declared.Mark.{Mark as UnitMark}
use Rattle.units.specs.declared.Unit.{Unit as UnitState}
use Rattle.channels.specs.declared.Configuration.{Configuration}
use Rattle.schedule.specs.Calls.{deleted, released}
use Rattle.packets.specs.History as Lists
use Rattle.packets.specs.History.{fresh, is_accepted}
use Rattle.packets.proofs.Reaching.{accepted-granted, step-accepted}
use Rattle.numbers.specs.Elements.{All, find}
use Rattle.packets.specs.Rules as Rules
use Rattle.packets.specs.Rules.{accept, closed, completed, finished, is_done, is_trouble, locked, return_if_done, site_of, startable, started, submitted}
use Rattle.packets.specs.State.{State, is_unit, motion_on, packet_in, release, set_lock, take_unit, wanted, with_lock, freed_at, set_holder, unit_at, with_holder, Motion, Verdict}
use Rattle.packets.specs.declared.Act.{Act}
use Rattle.packets.specs.declared.Act.TheVariants as Act'
use Rattle.packets.specs.declared.Answer.{Answer}
use Rattle.packets.specs.declared.Answer.TheVariants as Answers
use Rattle.packets.specs.declared.How.{How}
use Rattle.packets.specs.declared.Site.{Site}
use Rattle.packets.specs.declared.Site.TheVariants.{AtAddress, AtUnit}
use Rattle.packets.specs.declared.Spot.{Spot}
use Rattle.packets.proofs.Stays.{Configured, leads-has}
use Rattle.packets.proofs.Store.{unit-keep, unit-release, unit-take}
use Rattle.cell_selection.specs.declared.Selection.{Selection}
use Rattle.cell.specs.declared.Cell.{Cell}
use Rattle.cell_history.proofs.Reaching.{fresh-inside}
use Rattle.cell_history.proofs.ToldLaws.{does-told, leads-told}
use Rattle.cell_history.specs.Told.{chosen, done_as, inside, said, told, told_by, told_of}
use Rattle.cell_history.specs.History.{Call, Chosen, Deck, Delete, Do, Does, Entered, Event, Key, Mistyped, Reached, Release, Reply, Said, Select, Shown, Status, meant}
use Rattle.demands.specs.Demands.{AnsweredSo, SameMarks}
use Rattle.demands.specs.Refusing.{refusal_in}

-- ---- the channels and the codes

pub channels-stay : (c d : Cell) (x : Call) (reply : Reply) → Does c x reply d → (inside d).channels ≡ (inside c).channels
channels-stay c d x reply h =
    ap (λ (z : Configured). z.channels) (leads-has (inside c) (told_of x reply) (inside d) (does-told c d x reply h))

pub codes-stay : (configuration : Configuration) (es : List Event) (c : Cell) → Reached configuration es c
    → (inside c).codes ≡ configuration.codes
codes-stay configuration es c r =
    ap (λ (z : Configured). z.codes) (leads-has (inside r.from) (told es) (inside c) (leads-told r.from c es r.leads))
    ∙ ap (λ (s : State). s.codes) (ap inside r.begins ∙ fresh-inside configuration)
    ∙ (unfold fresh in refl)

-- ---- the marks

-- a call of the lists that marks nothing
abbrev Unmarking : Rules.Call → Type 0
Unmarking (Rules.Take j asg) = Unit {0}
Unmarking (Rules.Do (Act'.Submit j p f c w)) = Unit {0}
Unmarking (Rules.Do (Act'.Start c)) = Unit {0}
Unmarking (Rules.Do (Act'.Complete c how)) = Unit {0}
Unmarking (Rules.Do (Act'.End j e)) = Unit {0}
Unmarking (Rules.Do (Act'.Return j c u)) = Unit {0}
Unmarking (Rules.Do (Act'.Mark c u m on)) = ⊥

abbrev UnmarkingAs : Lists.Event → Type 0
UnmarkingAs e = Unmarking e.call

-- for anything that is read of a unit and that locks, new holders, returns and takings leave alone
module _ (f : UnitState → Bool) (locks : (v : UnitState) (b : Bool) → f (with_lock v b) ≡ f v)
    (holds : (v : UnitState) (h : Holder) → f (with_holder v h) ≡ f v)
    (frees : (j : ℕ) (v : UnitState) → f (release j v) ≡ f v)
    (takes : (j : ℕ) (w : Bool) (v : UnitState) → f (take_unit j w v) ≡ f v) (d w : ℕ) where
  abbrev read : State → Bool
  read s = f (unit_in s.units d w)

  lock-keeps : (units : List (List UnitState)) (c : ℕ) (a : Site) (b : Bool) → f (unit_in (set_lock units c a b) d w) ≡ f (unit_in units d w)
  lock-keeps units c (AtUnit u) b = unit-keep f units c u.0 (with_lock (unit_in units c u.0) b) d w (locks (unit_in units c u.0) b)
  lock-keeps units c (AtAddress x) b = refl

  hold-keeps : (units : List (List UnitState)) (c : ℕ) (a : Site) (h : Holder) → f (unit_in (set_holder units c a h) d w) ≡ f (unit_in units d w)
  hold-keeps units c (AtUnit u) h = unit-keep f units c u.0 (with_holder (unit_in units c u.0) h) d w (holds (unit_in units c u.0) h)
  hold-keeps units c (AtAddress x) h = refl

  back-keeps : (units : List (List UnitState)) (c : ℕ) (a : Site) → f (unit_in (freed_at units c a) d w) ≡ f (unit_in units d w)
  back-keeps units c a = by_bool (is_returning (unit_at units c a).holder) (λ t. rw t (hold-keeps units c a Free)) (λ t. rw t refl)

  returns-keep : (j : ℕ) (t : State) → read (return_if_done j t) ≡ read t
  returns-keep j t = by_bool (is_done t j) (λ e. rw e (ap f (unit-release t.units j d w) ∙ frees j (unit_in t.units d w))) (λ e. rw e refl)

  module _ (s : State) where
    starts-keep : (c : ℕ) (o : Option ℕ) → read (started s c o) ≡ read s
    starts-keep c none = refl
    starts-keep c (some e) = refl

    completed-keeps : (c : ℕ) (how : How) (m : Motion) → read (completed s c how m) ≡ read s
    completed-keeps c how None = refl
    completed-keeps c how (Some (j, p)) =
        back-keeps (return_if_done j (finished s c how j p)).units c (packet_in s.jobs j p).at
        ∙ returns-keep j (finished s c how j p)
        ∙ by_bool (is_trouble s.codes how && is_unit (packet_in s.jobs j p).at)
        (λ e. rw e (lock-keeps s.units c (packet_in s.jobs j p).at true)) (λ e. rw e refl)

    submitted-keeps : (j p g c : ℕ) (spot : Spot) → read (submitted s j p g c spot) ≡ read s
    submitted-keeps j p g c spot =
        by_bool (eqb g 0o07)
        (λ e. by_bool (locked s c (site_of spot)) (λ k. rw (e, k) (lock-keeps s.units c (site_of spot) false)) (λ k. rw (e, k) refl))
        (λ e. by_bool (eqb g 0o23) (λ k. rw (e, k) refl) (λ k. rw (e, k) refl))

    accept-keeps : (x : Rules.Call) → Unmarking x → read (accept s x) ≡ read s
    unfolding accept
    accept-keeps (Rules.Take j asg) n = let t = unit-take s.units j (wanted asg) d w in ap f t.1 ∙ takes j t.0 (unit_in s.units d w)
    accept-keeps (Rules.Do (Act'.Submit j p g c spot)) n = submitted-keeps j p g c.0 spot
    accept-keeps (Rules.Do (Act'.Start c)) n = starts-keep c.0 (find (startable s c.0) s.queue)
    accept-keeps (Rules.Do (Act'.Complete c how)) n = completed-keeps c.0 how (motion_on s c.0)
    accept-keeps (Rules.Do (Act'.End j e)) n = returns-keep j (closed s j e)
    accept-keeps (Rules.Do (Act'.Return j c u)) n = hold-keeps s.units c.0 (AtUnit u) _
    accept-keeps (Rules.Do (Act'.Mark c u m on)) n = absurd n

    step_keeps : (x : Rules.Call) → Unmarking x → read (Rules.step s x).state ≡ read s
    unfolding Rules.step
    step_keeps x n = go (Rules.refusal s x)
      where
        go : (v : Verdict) → read (Rules.decided s x v).state ≡ read s
        go (Ok u) = accept-keeps x n
        go (Err r) = refl

  leads-keep : (s : State) (l : List Lists.Event) (t : State) → Lists.Leads s l t → All UnmarkingAs l → read t ≡ read s
  leads-keep s [] t h a = ap read h
  leads-keep s (e ∷ l) t h a = leads-keep (Rules.step s e.call).state l t h.1 a.1 ∙ step_keeps s e.call a.0

done-unmarking : (o : Outcome) (s : Selection) → All UnmarkingAs (done_as o s)
done-unmarking (Ok u) s = (tt, tt)
done-unmarking (Err n) s = tt

chosen-unmarking : (reply : Reply) → All UnmarkingAs (chosen reply)
chosen-unmarking (Entered o) = tt
chosen-unmarking (Chosen o s) = done-unmarking o s
chosen-unmarking (Said a) = tt
chosen-unmarking (Shown s) = tt
chosen-unmarking (Mistyped f) = tt

said-unmarking : (x : Act) (reply : Reply) → Unmarking (Rules.Do x) → All UnmarkingAs (said x reply)
said-unmarking x (Entered o) n = tt
said-unmarking x (Chosen o s) n = tt
said-unmarking x (Said a) n = (n, tt)
said-unmarking x (Shown s) n = tt
said-unmarking x (Mistyped f) n = tt

-- no mark call is meant
abbrev NoMark : Option Call → Type 0
NoMark o = (k : ChannelNumber) (u : UnitNumber) (m : UnitMark) (on : Bool) → o ≡ some (Do (Act'.Mark k u m on)) → ⊥

act-unmarking : (x : Act) → NoMark (some (Do x)) → Unmarking (Rules.Do x)
act-unmarking (Act'.Submit j p f c w) n = tt
act-unmarking (Act'.Start c) n = tt
act-unmarking (Act'.Complete c how) n = tt
act-unmarking (Act'.End j e) n = tt
act-unmarking (Act'.Return j c u) n = tt
act-unmarking (Act'.Mark k u m on) n = absurd (n k u m on refl)

told-unmarking : (o : Option Call) (reply : Reply) → NoMark o → All UnmarkingAs (told_by o reply)
told-unmarking none reply n = tt
told-unmarking (some (Deck bytes)) reply n = tt
told-unmarking (some Select) reply n = chosen-unmarking reply
told-unmarking (some (Do x)) reply n = said-unmarking x reply (act-unmarking x n)
told-unmarking (some (Release id)) reply n = tt
told-unmarking (some (Delete id)) reply n = tt
told-unmarking (some (Status j p)) reply n = tt
told-unmarking (some (Key message)) reply n = tt

pub marks_stay : (c d : Cell) (x : Call) (reply : Reply) → Does c x reply d → NoMark (meant x) → (k u : ℕ)
    → SameMarks (unit_in (inside d).units k u) (unit_in (inside c).units k u)
marks_stay c d x reply h n k u = (
  kept (λ v. v.down) (λ v b. refl) (λ v h. refl) (λ j v. refl) (λ j w v. by_bool (w && assignable v) (λ t. rw t refl) (λ t. rw t refl)),
  kept (λ v. v.reserved) (λ v b. refl) (λ v h. refl) (λ j v. refl) (λ j w v. by_bool (w && assignable v) (λ t. rw t refl) (λ t. rw t refl)),
)
  where
    kept : (f : UnitState → Bool) → ((v : UnitState) (b : Bool) → f (with_lock v b) ≡ f v)
        → ((v : UnitState) (h : Holder) → f (with_holder v h) ≡ f v) → ((j : ℕ) (v : UnitState) → f (release j v) ≡ f v)
        → ((j : ℕ) (w : Bool) (v : UnitState) → f (take_unit j w v) ≡ f v)
        → f (unit_in (inside d).units k u) ≡ f (unit_in (inside c).units k u)
    kept f locks holds frees takes =
        leads-keep f locks holds frees takes k u (inside c) (told_of x reply) (inside d) (does-told c d x reply h)
        (told-unmarking (meant x) reply n)

-- ---- the answers

one_answer : {a b : Answer} → Said a ≡ Said b → a ≡ b
one_answer e = cc

-- each accepted call is answered as the rules say
answered-so : (s : State) (l : List Lists.Event) (t : State) → Lists.Leads s l t → AnsweredSo s l
answered-so s [] t h = tt
answered-so s (e ∷ l) t h = (
  λ a. h.0 ∙ ap (λ (y : Rules.Answered). y.answer)
      (step-accepted s e.call (accepted-granted s e.call (sym (ap is_accepted h.0) ∙ a))),
  answered-so (Rules.step s e.call).state l t h.1,
)

pub answers-so : (c d : Cell) (x : Call) (reply : Reply) → Does c x reply d → AnsweredSo (inside c) (told_of x reply)
answers-so c d x reply h = answered-so (inside c) (told_of x reply) (inside d) (does-told c d x reply h)

done-only : (o : Outcome) (a : Answer) → Said a ≡ Said (answer_of o) → refusal_in (Said a) ≡ none → a ≡ Answers.Done
done-only (Ok u) a e n = one_answer e
done-only (Err r) a e n = absurd (refused (sym (ap refusal_in e) ∙ n))
  where
    refused : some r ≡ none → ⊥
    refused z = let y : ◌≡◌ {A = ℕ} 0 1 = cc in omega arith

pub changes-so : (c d : Cell) (id : List ℕ) (a : Answer) → Does c (Release id) (Said a) d ⊎ Does c (Delete id) (Said a) d
    → refusal_in (Said a) ≡ none → a ≡ Answers.Done
changes-so c d id a h n =
    ⊎_elim (λ k. done-only (released c.schedule id).outcome a k.0 n) (λ k. done-only (deleted c.schedule id).outcome a k.0 n) h
