-- The page Interlocks holds of every cell with the invariants: what each call does to the interlock of each unit.
-- Assumes nothing.
use Rattle.std.proofs.Common.{Ok, Some}
use Prim.Native.Nat.{ℕ}
use mathlib.Core.Path.{◌≡◌, refl, ◌∙◌}
use mathlib.Core.Bool.{Bool, true, false, cond, ◌&&◌, ◌||◌}
use mathlib.Core.List.{List}
use mathlib.Core.Option.{Option, none, some}
use lib.Dec.{eqb}
use borrow.Author.Tests.{eqb-true}
use Rattle.numbers.proofs.Tests.{by_bool, never}
use Rattle.units.specs.State.{assignable, is_free, marked_unit, unit_in}
use Rattle.units.specs.declared.Unit.{Unit as UnitState}
use Rattle.packets.specs.Interlocks.{interlock_after, is_that}
use Rattle.numbers.specs.Elements.{find}
use Rattle.packets.specs.Rules.{Call, Do, Take, accept, assigned, closed, finished, is_done, is_trouble, locked}
use Rattle.packets.specs.Rules.{refusal, return_if_done, site_of, startable, started, submitted}
use Rattle.packets.specs.declared.Act.TheVariants as Act'
use Rattle.packets.specs.State.{State, held_by, is_empty, is_unit, motion_on, packet_in, set_lock, state_in, unit_at, wanted, with_lock}
use Rattle.packets.specs.declared.Assignment.{Assignment}
use Rattle.packets.specs.declared.How.{How}
use Rattle.packets.specs.declared.Site.{Site}
use Rattle.packets.specs.declared.Site.TheVariants.{AtAddress, AtUnit}
use Rattle.packets.specs.declared.Spot.{Spot}
use Rattle.packets.proofs.Inv.{Inv, OwnedAt}
use Rattle.packets.proofs.InvJobs.{held-taken}
use Rattle.packets.proofs.Laws.{and_left, and_right, eqb-self}
use Rattle.packets.proofs.Sites.{mark-lock}
use Rattle.packets.proofs.Steps.{busy-of}
use Rattle.packets.proofs.Store.{unit-keep, unit-release, unit-set, unit-take}
use Rattle.packets.proofs.Told.{Submits, assigns-to, completes-on, owns-unit, returns_of, submits}
use Rattle.packets.proofs.Handing.{back-interlock, hold-interlock, next}

-- an interlock that is set or cleared where a job holds the unit
lock-read : (units : List (List UnitState)) (d : ℕ) (a : Site) (b : Bool) → (is_unit a ≡ true → is_free (unit_at units d a).holder ≡ false) → (c u : ℕ)
    → (unit_in (set_lock units d a b) c u).interlock ≡ cond (is_that c u d a) b (unit_in units c u).interlock
lock-read units d (AtUnit v) b f c u =
    rw (unit-set units d v.0 (with_lock (unit_in units d v.0) b) c u (f refl)) (by_bool (eqb c d && eqb u v.0) (λ e. rw e) (λ e. rw e))
lock-read units d (AtAddress x) b f c u = by_bool (eqb c d) (λ t. rw t) (λ t. rw t)

-- facilities that return leave it
returned-lock : (s : State) (j c u : ℕ) → (unit_in (return_if_done j s).units c u).interlock ≡ (unit_in s.units c u).interlock
returned-lock s j c u = by_bool (is_done s j) (λ e. rw (e, unit-release s.units j c u)) (λ e. rw e)

started-lock : (s : State) (d : ℕ) (o : Option ℕ) (c u : ℕ) → (unit_in (started s d o).units c u).interlock ≡ (unit_in s.units c u).interlock
started-lock s d none c u = refl
started-lock s d (some e) c u = refl

-- no unit is at an address
at_unit : (c u d : ℕ) (a : Site) → is_unit a ≡ false → is_that c u d a ≡ false
at_unit c u d (AtUnit v) e = never {b = true} refl e
at_unit c u d (AtAddress x) e = by_bool (eqb c d) (λ t. rw t) (λ t. rw t)

-- a unit is at one site of its channel
that-unit : (units : List (List UnitState)) (c u d : ℕ) (a : Site) → is_that c u d a ≡ true → unit_in units c u ≡ unit_at units d a
that-unit units c u d (AtUnit v) e =
    rw (eqb-true c d (and_left (eqb c d) _ e), eqb-true u v.0 (and_right (eqb c d) _ e))
that-unit units c u d (AtAddress x) e = never {b = false} (and_right (eqb c d) false e) refl

module _ (s : State) (I : Inv s) (c u : ℕ) where
  abbrev now : Bool
  now = (unit_in s.units c u).interlock

  -- a completion on channel d of packet p of place j
  finished-lock : (d : ℕ) (how : How) (j p : ℕ) → motion_on s d ≡ Some (j, p)
      → (unit_in (finished s d how j p).units c u).interlock ≡ (is_trouble s.codes how && is_that c u d (packet_in s.jobs j p).at) || now
  finished-lock d how j p is =
      let a = (packet_in s.jobs j p).at in
      let k = I.motion d j p is in
      let owned : OwnedAt s j d a = rw k.channel at k.owned in
      let held : is_unit a ≡ true → is_free (unit_at s.units d a).holder ≡ false = λ e. held-taken (unit_at s.units d a).holder j (owned.1 e) in
      by_bool (is_trouble s.codes how)
      (λ t. by_bool (is_unit a)
      (λ e. rw (t, e, lock-read s.units d a true held c u) (by_bool (is_that c u d a) (λ f. rw f) (λ f. rw f)))
      (λ e. rw (t, e, at_unit c u d a e)))
      (λ t. rw t)

  submitted-lock : (j p f d : ℕ) (w : Spot) → Submits s j p f d w
      → (unit_in (submitted s j p f d w).units c u).interlock ≡ cond (eqb f 0o07 && is_that c u d (site_of w)) false now
  submitted-lock j p f d w k =
      let a = site_of w in
      let held : is_unit a ≡ true → is_free (unit_at s.units d a).holder ≡ false =
      λ e. held-taken (unit_at s.units d a).holder j (owns-unit s j p f d w k e) in
      by_bool (eqb f 0o07)
      (λ e. by_bool (locked s d a)
      (λ t. rw (e, t, lock-read s.units d a false held c u))
      (λ t. rw (e, t) (by_bool (is_that c u d a) (λ m. rw (m, that-unit s.units c u d a m, t)) (λ m. rw m))))
      (λ e. by_bool (eqb f 0o23) (λ t. rw (e, t)) (λ t. rw (e, t)))

  taken-lock : (j : ℕ) (asg : Assignment) → is_empty (state_in s.jobs j) ≡ true
      → (unit_in (assigned s j asg).units c u).interlock ≡ cond (held_by (unit_in (assigned s j asg).units c u).holder j) false now
  taken-lock j asg empty =
      let v = unit_in s.units c u in
      let t = unit-take s.units j (wanted asg) c u in
      rw t.1
      (by_bool (t.0 && assignable v)
      (λ e. rw (e, eqb-self j))
      (λ e. rw e (by_bool (held_by v.holder j) (λ h. never {b = is_empty (state_in s.jobs j)} empty (I.holders c u j h)) (λ h. rw h))))

  pub lock-after : (x : Call) → refusal s x ≡ Ok tt → (unit_in (accept s x).units c u).interlock ≡ interlock_after s x c u
  unfolding accept interlock_after
  lock-after (Take j asg) r = taken-lock j asg (assigns-to s j asg r).1
  lock-after (Do (Act'.Submit j p f d w)) r = submitted-lock j p f d.0 w (submits s j p f d.0 w r)
  lock-after (Do (Act'.Start d)) r = started-lock s d.0 (find (startable s d.0) s.queue) c u
  lock-after (Do (Act'.Complete d how)) r =
      let o = busy-of (motion_on s d.0) (completes-on s d.0 how r).1 in
      let s₁ = return_if_done o.0 (finished s d.0 how o.0 o.1) in
      rw o.2
      (back-interlock s₁.units d.0 (packet_in s.jobs o.0 o.1).at c u
      ∙ returned-lock (finished s d.0 how o.0 o.1) o.0 c u ∙ finished-lock d.0 how o.0 o.1 o.2)
  lock-after (Do (Act'.End j e)) r = returned-lock (closed s j e) j c u
  lock-after (Do (Act'.Return j d v)) r = hold-interlock s.units d.0 v.0 (next s I j d.0 v.0 (returns_of s j d.0 v.0 r)) c u
  lock-after (Do (Act'.Mark d v m on)) r =
      unit-keep (λ (x : UnitState). x.interlock) s.units d.0 v.0 (marked_unit m on (unit_in s.units d.0 v.0)) c u
      (mark-lock m on (unit_in s.units d.0 v.0))
