-- A unit that is being returned waits for a packet of its job that is stopping there: a return makes it so, no call but
-- the completion there ends that packet, and the completion gives the unit back. Assumes nothing.
use Rattle.std.proofs.Common.{None, Ok, Some}
use Prim.Native.Nat.{ℕ}
use mathlib.Core.Path.{◌≡◌, refl, sym, ap, ◌∙◌}
use mathlib.Core.Bool.{Bool, true, false, cond, ◌&&◌}
use mathlib.Core.List.{List}
use mathlib.Core.Option.{Option, none, some}
use native.Mathlib.Omega.{arith}
use lib.Dec.{eqb}
use borrow.Author.Tests.{eqb-true, eq-eqb}
use Rattle.numbers.proofs.Tests.{by_bool, never}
use Rattle.units.specs.State.{assignable, is_returning, marked_unit, unit_in}
use Rattle.units.specs.declared.Holder.{Holder}
use Rattle.units.specs.declared.Holder.TheVariants.{Free}
use Rattle.units.specs.declared.Unit.{Unit as UnitState}
use Rattle.channels.specs.declared.Channel.{Channel}
use Rattle.packets.proofs.Reaching.{by-history, of-fresh}
use Rattle.packets.proofs.Alone.{finish-keeps, submit-keeps}
use Rattle.packets.proofs.Closing.{cut-halts}
use Rattle.packets.proofs.Handing.{handed-to, held-unit, next, returning-taken, returns-inside, unit_site}
use Rattle.packets.proofs.Inv.{Inv}
use Rattle.packets.proofs.InvJobs.{held-taken}
use Rattle.packets.proofs.InvUnits.{mark-holder}
use Rattle.packets.proofs.Laws.{same-motion, and_left, and_right, eqb-self}
use Rattle.packets.proofs.Sites.{same-is}
use Rattle.packets.proofs.Steps.{busy-of, reached-inv}
use Rattle.packets.proofs.Store.{packet-restatus, unit-keep, unit-release, unit-take}
use Rattle.packets.proofs.Told.{Returns, completes-on, cut-going, returns_of}
use Rattle.packets.specs.History.{Event, NoneHeld, Reached, fresh}
use Rattle.numbers.specs.Elements.{find}
use Rattle.packets.specs.Rules.{Call, Do, Take, accept, closed, cut, finished, handed_back, is_at, is_done, moves_at, refusal, return_if_done}
use Rattle.packets.specs.Rules.{startable, started}
use Rattle.packets.proofs.ByNumber.{Complete, End, Mark, Return, Start, Submit}
use Rattle.packets.specs.declared.Act.TheVariants as Act'
use Rattle.packets.specs.State.{State, freed_at, held_by, motion_on, packet_in, release, restatus_all, take_unit, wanted, with_holder}
use Rattle.packets.specs.declared.How.{How}
use Rattle.packets.specs.State.{Motion}
use Rattle.packets.specs.declared.Packet.{Packet}
use Rattle.packets.specs.declared.Site.{Site}
use Rattle.packets.specs.declared.Site.TheVariants.{AtAddress, AtUnit}
use Rattle.packets.specs.declared.Status.TheVariants.{Stopping}
use Rattle.packets.proofs.GoesOn.{Goes, goes}

-- ---- what is kept

-- a packet of the unit's job is stopping there
pub record Waiting (s : State) (c u : ℕ) : Type 0 where
  pub place : ℕ
  pub packet : ℕ
  pub held : held_by (unit_in s.units c u).holder place ≡ true
  pub moves : motion_on s c ≡ Some (place, packet)
  pub at : (packet_in s.jobs place packet).at ≡ unit_site u
  pub stopping : (packet_in s.jobs place packet).status ≡ Stopping

abbrev pub Waits : State → Type 0
Waits s = (c u : ℕ) → is_returning (unit_in s.units c u).holder ≡ true → Waiting s c u

-- ---- a unit that is still being returned

-- all facilities of a job return
release-returning : (v : UnitState) (j : ℕ) → is_returning (release j v).holder ≡ true → v.holder ≡ (release j v).holder
release-returning v j e = by_bool (held_by v.holder j) (λ t. never {b = false} (rw t at e) refl) (λ t. rw t)

return-returning : (s : State) (j c u : ℕ) → is_returning (unit_in (return_if_done j s).units c u).holder ≡ true
    → (unit_in s.units c u).holder ≡ (unit_in (return_if_done j s).units c u).holder
return-returning s j c u e =
    by_bool (is_done s j)
    (λ t. let e' : is_returning (release j (unit_in s.units c u)).holder ≡ true = rw (t, unit-release s.units j c u) at e in
    rw (t, unit-release s.units j c u) (release-returning (unit_in s.units c u) j e'))
    (λ t. rw t)

-- a job is taken
take-returning : (j : ℕ) (w : Bool) (v : UnitState) → is_returning (take_unit j w v).holder ≡ true → v.holder ≡ (take_unit j w v).holder
take-returning j w v e = by_bool (w && assignable v) (λ t. never {b = false} (rw t at e) refl) (λ t. rw t)

-- a unit is given back: it is not that one
back-returning : (units : List (List UnitState)) (d : ℕ) (a : Site) (c u : ℕ) → is_returning (unit_in (freed_at units d a) c u).holder ≡ true
    → ((unit_in units c u).holder ≡ (unit_in (freed_at units d a) c u).holder) × (c ≡ d → a ≡ unit_site u → ⊥)
back-returning units d (AtAddress x) c u e = (refl, λ p q. let y : ◌≡◌ {A = ℕ} 0 1 = cc in omega arith)
back-returning units d (AtUnit v) c u e =
    by_bool (is_returning (unit_in units d v.0).holder)
    (λ t.
    let w = held-unit units d v.0 Free (returning-taken (unit_in units d v.0).holder t) c u in
    let e' : is_returning (cond (eqb c d && eqb u v.0) (with_holder (unit_in units d v.0) Free) (unit_in units c u)).holder ≡ true =
    rw (t, w) at e in
    by_bool (eqb c d && eqb u v.0)
    (λ x. never {b = false} (rw x at e') refl)
    (λ x. (rw (t, w, x), λ p q. never {b = eqb c d && eqb u v.0} (rw (p, eqb-self d) (eq-eqb u v.0 (sym (number q)))) x)))
    (λ t. (
      rw t,
      λ p q.
          let y : v.0 ≡ u = number q in
          let z : is_returning (unit_in units c u).holder ≡ true = rw t at e in
          never {b = is_returning (unit_in units c u).holder} z (rw (p, ← y) t),
    ))
  where
    number : AtUnit v ≡ unit_site u → v.0 ≡ u
    number q = ap unit_of q
      where
        unit_of : Site → ℕ
        unit_of (AtUnit w) = w.0
        unit_of (AtAddress x) = 0

-- ---- every call

-- a unit whose holder is as it was, and whose packet goes on
keeps-waiting : (s s' : State) (c u : ℕ) (w : Waiting s c u) → (unit_in s.units c u).holder ≡ (unit_in s'.units c u).holder
    → Goes s s' c w.place w.packet → Waiting s' c u
keeps-waiting s s' c u w e g =
    record {
      place = w.place;
      packet = w.packet;
      held = ap (λ (h : Holder). held_by h w.place) (sym e) ∙ w.held;
      moves = g.moves;
      at = g.at ∙ w.at;
      stopping = g.stopping;
    }

module _ (s : State) (I : Inv s) (W : Waits s) where
  -- a unit that was being returned, through a call that is no completion on its channel
  still-waits : (x : Call) → refusal s x ≡ Ok tt → (c u : ℕ) → is_returning (unit_in (accept s x).units c u).holder ≡ true
      → (unit_in s.units c u).holder ≡ (unit_in (accept s x).units c u).holder
      → ((w : Waiting s c u) (how : How) → x ≡ Complete c how → ⊥) → Waiting (accept s x) c u
  still-waits x r c u e same o =
      let w = W c u (ap is_returning same ∙ e) in
      keeps-waiting s (accept s x) c u w same (goes s I c w.place w.packet w.moves w.stopping x r (o w))

  -- a unit whose return has just been asked for
  now-waits : (j d v : ℕ) → Returns s j d v → is_returning (unit_in (handed_back s j d (unit_site v)).units d v).holder ≡ true
      → Waiting (handed_back s j d (unit_site v)) d v
  now-waits j d v k e =
      let h = handed-to s I j d v k in
      by-motion (motion_on s d) refl h (by_bool (moves_at s j d (unit_site v) (motion_on s d)) (λ t. t) (λ t. never {b = false} (rw (h, t) at e) refl))
    where
      by-motion : (m : Motion) → motion_on s d ≡ m → (unit_in (handed_back s j d (unit_site v)).units d v).holder ≡ next s I j d v k
          → moves_at s j d (unit_site v) (motion_on s d) ≡ true → Waiting (handed_back s j d (unit_site v)) d v
      by-motion None is h t = never {b = false} (rw is at t) refl
      by-motion (Some (i, p)) is h t =
          let t' : eqb i j && is_at d (unit_site v) (packet_in s.jobs j p) ≡ true = rw is at t in
          let x : i ≡ j = eqb-true i j (and_left (eqb i j) _ t') in
          let y : is_at d (unit_site v) (packet_in s.jobs j p) ≡ true = and_right (eqb i j) _ t' in
          let is' : motion_on s d ≡ Some (j, p) = rw x at is in
          let q = packet_in s.jobs j p in
          let z : packet_in (restatus_all s.jobs j (is_at d (unit_site v)) cut) j p
          ≡ record { status = cut q.status; function = q.function; channel = q.channel; at = q.at } =
          packet-restatus s.jobs j (is_at d (unit_site v)) cut j p (returns-inside s I j d v k) refl ∙ rw (eqb-self j, y) in
          record {
            place = j;
            packet = p;
            held = ap (λ (o : Holder). held_by o j) h ∙ rw t (eqb-self j);
            moves = is';
            at = ap (λ (o : Packet). o.at) z ∙ same-is q.at (unit_site v) (and_right (eqb q.channel.0 d) _ y);
            stopping = ap (λ (o : Packet). o.status) z ∙ cut-halts q.status (cut-going q.status (I.motion d j p is').going);
          }

  accept-waits : (x : Call) → refusal s x ≡ Ok tt → Waits (accept s x)
  unfolding accept
  accept-waits (Take j asg) r c u e =
      let k = unit-take s.units j (wanted asg) c u in
      let e' : is_returning (take_unit j k.0 (unit_in s.units c u)).holder ≡ true = rw k.1 at e in
      still-waits (Take j asg) r c u e (take-returning j k.0 (unit_in s.units c u) e' ∙ sym (ap (λ (v : UnitState). v.holder) k.1))
      (λ w how q. different q)
    where
      different : {how : How} → Take j asg ≡ Complete c how → ⊥
      different q = let y : ◌≡◌ {A = ℕ} 0 1 = cc in omega arith
  accept-waits (Do (Act'.Submit j p f d w)) r c u e =
      still-waits (Submit j p f d.0 w) r c u e (sym (submit-keeps s j p f d.0 w c u))
      (λ v how q. let y : ◌≡◌ {A = ℕ} 0 1 = cc in omega arith)
  accept-waits (Do (Act'.Start d)) r c u e =
      still-waits (Start d.0) r c u e (same (find (startable s d.0) s.queue)) (λ v how q. let y : ◌≡◌ {A = ℕ} 0 1 = cc in omega arith)
    where
      same : (o : Option ℕ) → (unit_in s.units c u).holder ≡ (unit_in (started s d.0 o).units c u).holder
      same none = refl
      same (some x) = refl
  accept-waits (Do (Act'.Complete d how)) r c u e =
      let y = busy-of (motion_on s d.0) (completes-on s d.0 how r).1 in
      let j = y.0 in
      let p = y.1 in
      let a = (packet_in s.jobs j p).at in
      let s₁ = finished s d.0 how j p in
      let s₂ = return_if_done j s₁ in
      let e' : is_returning (unit_in (freed_at s₂.units d.0 a) c u).holder ≡ true = rw y.2 at e in
      let k = back-returning s₂.units d.0 a c u e' in
      let same : (unit_in s.units c u).holder ≡ (unit_in (freed_at s₂.units d.0 a) c u).holder =
      sym (finish-keeps s d.0 how j p c u) ∙ return-returning s₁ j c u (ap is_returning k.0 ∙ e') ∙ k.0 in
      still-waits (Complete d.0 how) r c u e (rw y.2 same)
      (λ w how' q.
      let f : d.0 ≡ c = cc in
      let m = same-motion w.place w.packet j p (sym w.moves ∙ ap (motion_on s) (sym f) ∙ y.2) in
      k.1 (sym f) (rw (m.0, m.1) at w.at))
  accept-waits (Do (Act'.End j b)) r c u e =
      still-waits (End j b) r c u e (return-returning (closed s j b) j c u e) (λ v how q. let y : ◌≡◌ {A = ℕ} 0 1 = cc in omega arith)
  accept-waits (Do (Act'.Return j d v)) r c u e =
      let k = returns_of s j d.0 v.0 r in
      let h = held-unit s.units d.0 v.0 (next s I j d.0 v.0 k) (held-taken (unit_in s.units d.0 v.0).holder j k.held)
      c u in
      by_bool (eqb c d.0 && eqb u v.0)
      (λ t.
      let x : c ≡ d.0 = eqb-true c d.0 (and_left (eqb c d.0) _ t) in
      let y : u ≡ v.0 = eqb-true u v.0 (and_right (eqb c d.0) _ t) in
      rw (x, y) (now-waits j d.0 v.0 k (rw (x, y) at e)))
      (λ t.
      let same : (unit_in s.units c u).holder ≡ (unit_in (handed_back s j d.0 (unit_site v.0)).units c u).holder = rw (h, t) in
      still-waits (Return j d.0 v.0) r c u e same (λ w how q. let y : ◌≡◌ {A = ℕ} 0 1 = cc in omega arith))
  accept-waits (Do (Act'.Mark d v m on)) r c u e =
      still-waits (Mark d.0 v.0 m on) r c u e
      (sym (unit-keep (λ (o : UnitState). o.holder) s.units d.0 v.0 (marked_unit m on (unit_in s.units d.0 v.0)) c u
      (mark-holder m on (unit_in s.units d.0 v.0))))
      (λ w how q. let y : ◌≡◌ {A = ℕ} 0 1 = cc in omega arith)

fresh-waits : (channels : List Channel) (codes : ℕ) (units : List (List UnitState)) → NoneHeld units → Waits (fresh channels codes units)
unfolding fresh
fresh-waits channels codes units free c u e = never {b = false} (sym (ap is_returning (free c u)) ∙ e) refl

pub reached-waits : (l : List Event) (s : State) → Reached l s → Waits s
reached-waits = by-history Waits (of-fresh Waits fresh-waits) (λ l s r W x e. accept-waits s (reached-inv l s r) W x e)
