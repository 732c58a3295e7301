-- What moves stays what it is: only a start and a completion change what a channel carries, and no call changes where a
-- packet that moves was submitted. So what moves is at a unit without interlock. Assumes nothing.
use Rattle.std.proofs.Common.{None, Ok, Some}
use Prim.Native.Nat.{ℕ}
use mathlib.Core.Path.{◌≡◌, refl, sym, ap, ◌∙◌}
use mathlib.Core.Bool.{false, ◌&&◌}
use mathlib.Core.List.{List}
use native.Mathlib.Omega.{arith}
use lib.Dec.{eqb}
use borrow.Author.Tests.{eqb-true, eqb-false, ne_eqb, not-true}
use Rattle.numbers.proofs.Tests.{by_bool, never}
use Rattle.units.specs.State.{unit_in}
use Rattle.units.specs.declared.Unit.{Unit as UnitState}
use Rattle.channels.specs.declared.Channel.{Channel}
use Rattle.packets.proofs.Reaching.{by-history, of-fresh}
use Rattle.packets.proofs.Handing.{completed-idle, return-motion, returns-inside, unit_site}
use Rattle.packets.proofs.InterlocksProof.{lock-after}
use Rattle.packets.proofs.Inv.{EntryOk, Inv, listed-busy, running-alive}
use Rattle.packets.proofs.InvStores.{motion-move}
use Rattle.packets.proofs.Laws.{idle-moves, same-motion, and_left, and_right, eqb-self, find-holds}
use Rattle.packets.proofs.SeenLaws.{calm-finished, calm_return, calm-same, calm-status, calm-submit, calm-sweep, calm-trans}
use Rattle.packets.proofs.StepSubmit.{Ready, ready-still}
use Rattle.packets.proofs.Steps.{busy-of, find-some, fresh-inv, fresh-state, start-at, start_fits, startable-on, reached-inv}
use Rattle.packets.proofs.Store.{alive-in, packet-fresh, packet-state}
use Rattle.packets.proofs.Told.{assigns-to, completes-on, cut-idle, ends_of, returns_of, starts-on, submits}
use Rattle.packets.specs.Interlocks.{carried_at, interlock_after, is_that}
use Rattle.packets.specs.Demand.{Holding}
use Rattle.packets.specs.History.{Event, NoneHeld, Reached, empty_place, fresh}
use Rattle.numbers.specs.Elements.{find}
use Rattle.packets.specs.Rules.{
  Call,
  Do,
  Take,
  accept,
  always,
  assigned,
  begun,
  closed,
  closing,
  completed,
  cut,
  ended,
  finished,
  is_at,
  is_trouble,
  locked,
  refusal,
  return_if_done,
  site_of,
  startable,
  started,
  submitted,
}
use Rattle.packets.proofs.ByNumber.{Complete, End, Mark, Return, Start, Submit}
use Rattle.packets.specs.declared.Act.TheVariants as Act'
use Rattle.packets.specs.State.{
  State,
  held_by,
  is_empty,
  is_unit,
  motion_on,
  move,
  packet_in,
  packet_of,
  place_of,
  restatus_all,
  state_in,
  sweep,
  unit_at,
}
use Rattle.packets.specs.declared.How.{How}
use Rattle.packets.specs.State.{Motion}
use Rattle.packets.specs.declared.Packet.{Packet}
use Rattle.packets.specs.declared.Site.{Site}
use Rattle.packets.specs.declared.Site.TheVariants.{AtAddress, AtUnit}
use Rattle.packets.specs.declared.Spot.{Spot}
use Rattle.packets.specs.declared.Status.TheVariants.{InProgress}

-- ---- what a channel carries

submit-motion : (s : State) (j p f d : ℕ) (w : Spot) (c : ℕ) → motion_on (submitted s j p f d w) c ≡ motion_on s c
submit-motion s j p f d w c =
    by_bool (eqb f 0o07) (λ e. by_bool (locked s d (site_of w)) (λ l. rw (e, l)) (λ l. rw (e, l)))
    (λ e. by_bool (eqb f 0o23) (λ l. rw (e, l)) (λ l. rw (e, l)))

pub finished-motion : (s : State) (d : ℕ) (how : How) (j p c : ℕ) → motion_on (finished s d how j p) c ≡ motion_on (move s d None) c
finished-motion s d how j p c =
    by_bool (is_trouble s.codes how && is_unit (packet_in s.jobs j p).at) (λ e. rw e) (λ e. rw e)

-- a channel carries what it carried, unless something starts or completes on it
pub motion-kept : (s : State) → Inv s → (x : Call) → refusal s x ≡ Ok tt → (c : ℕ) → (x ≡ Start c → ⊥) → ((how : How) → x ≡ Complete c how → ⊥)
    → motion_on (accept s x) c ≡ motion_on s c
unfolding accept
motion-kept s I (Take j asg) r c n o = refl
motion-kept s I (Do (Act'.Submit j p f d w)) r c n o = submit-motion s j p f d.0 w c
motion-kept s I (Do (Act'.Start d)) r c n o =
    let m = starts-on s d.0 r in
    let y = find-some (find (startable s d.0) s.queue) m.2 in
    let apart : eqb c d.0 ≡ false = ne_eqb c d.0 (λ q. n (ap Start (sym q))) in
    let k : motion_on (begun s d.0 y.0) c ≡ motion_on s c =
    motion-move s d.0 (Some (place_of y.0, packet_of y.0)) c (rw I.channels m.0) ∙ rw apart in
    rw y.1 k
motion-kept s I (Do (Act'.Complete d how)) r c n o =
    let m = completes-on s d.0 how r in
    let y = busy-of (motion_on s d.0) m.1 in
    let apart : eqb c d.0 ≡ false = ne_eqb c d.0 (λ q. o how (ap (λ (e : ℕ). Complete e how) (sym q))) in
    let k : motion_on (return_if_done y.0 (finished s d.0 how y.0 y.1)) c ≡ motion_on s c =
    return-motion (finished s d.0 how y.0 y.1) y.0 c ∙ finished-motion s d.0 how y.0 y.1 c
    ∙ motion-move s d.0 None c (rw I.channels m.0) ∙ rw apart in
    rw y.2 k
motion-kept s I (Do (Act'.End j b)) r c n o = return-motion (closed s j b) j c
motion-kept s I (Do (Act'.Return j d v)) r c n o = refl
motion-kept s I (Do (Act'.Mark d v m on)) r c n o = refl

-- ---- where a packet that moves was submitted

-- a holding of the job in place i
abbrev its : ℕ → Holding
its i = record { place = i; channel = 0; drum = false; unit = 0 }

-- a packet that moves is not one that is free to be submitted
pub another : (s : State) → Inv s → (c i n : ℕ) → motion_on s c ≡ Some (i, n) → (j p : ℕ) → Ready s j p → eqb i j && eqb n p ≡ false
another s I c i n is j p k =
    by_bool (eqb i j && eqb n p)
    (λ t. let x : i ≡ j = eqb-true i j (and_left (eqb i j) _ t) in
    let y : n ≡ p = eqb-true n p (and_right (eqb i j) _ t) in
    absurd (ready-still s I j p c k (rw (x, y) at is)))
    (λ t. t)

pub at-kept : (s : State) → Inv s → (x : Call) → refusal s x ≡ Ok tt → (c i n : ℕ) → motion_on s c ≡ Some (i, n)
    → (packet_in (accept s x).jobs i n).at ≡ (packet_in s.jobs i n).at
unfolding accept
at-kept s I (Take j asg) r c i n is =
    let k = assigns-to s j asg r in
    let e : eqb i j ≡ false =
    by_bool (eqb i j) (λ t. never {b = is_empty (state_in s.jobs j)} k.1 (rw (eqb-true i j t) at (I.motion c i n is).alive)) (λ t. t) in
    let z : packet_in (assigned s j asg).jobs i n ≡ packet_in s.jobs i n = packet-fresh s.jobs j asg i (rw I.places k.0) n ∙ rw e in
    ap (λ (q : Packet). q.at) z
at-kept s I (Do (Act'.Submit j p f d w)) r c i n is =
    let k = submits s j p f d.0 w r in
    (calm-submit (its i) s I j p f d.0 w k n (another s I c i n is j p (record { small = k.small; running = k.running; idle = k.idle }))).2
at-kept s I (Do (Act'.Start d)) r c i n is =
    let m = starts-on s d.0 r in
    let y = find-some (find (startable s d.0) s.queue) m.2 in
    let e = y.0 in
    let q = find-holds (EntryOk s) (startable s d.0) s.queue e I.queued y.1 in
    let fits = start_fits s I d.0 m.0 e q.0 (startable-on s d.0 e q.1) in
    let k : (packet_in (begun s d.0 e).jobs i n).at ≡ (packet_in s.jobs i n).at =
    (calm-status (its i) s (place_of e) (packet_of e) InProgress fits
    (listed-busy (packet_in s.jobs (place_of e) (packet_of e)).status q.0.listed) n).2 in
    rw y.1 k
at-kept s I (Do (Act'.Complete d how)) r c i n is =
    let m = completes-on s d.0 how r in
    let y = busy-of (motion_on s d.0) m.1 in
    let k : (packet_in (completed s d.0 how (Some (y.0, y.1))).jobs i n).at ≡ (packet_in s.jobs i n).at =
    (calm-finished (its i) s I d.0 m.0 how y.0 y.1 y.2 n).2 in
    rw y.2 k
at-kept s I (Do (Act'.End j b)) r c i n is =
    let inside = alive-in s.jobs j (running-alive (state_in s.jobs j) (ends_of s j b r)) in
    let h = its i in
    let s₁ = sweep s j always cut in
    let s₂ = closed s j b in
    (calm-trans h s s₁ (ended s j b) n (calm-sweep h s j always cut inside refl cut-idle n)
    (calm-trans h s₁ s₂ (ended s j b) n (calm-same h s₁ s₂ n (packet-state (restatus_all s.jobs j always cut) j (closing b) i n))
    (calm_return h s₂ j n))).2
at-kept s I (Do (Act'.Return j d v)) r c i n is =
    (calm-sweep (its i) s j (is_at d.0 (unit_site v.0)) cut (returns-inside s I j d.0 v.0 (returns_of s j d.0 v.0 r)) refl
    cut-idle n).2
at-kept s I (Do (Act'.Mark d v m on)) r c i n is = refl

-- ---- a unit on which something moves has no interlock

abbrev pub Opened : State → Type 0
Opened s = (c j p : ℕ) → motion_on s c ≡ Some (j, p) → (unit_at s.units c (packet_in s.jobs j p).at).interlock ≡ false

module _ (s : State) (I : Inv s) (x : Call) (r : refusal s x ≡ Ok tt) where
  -- only a completion on its channel locks a unit
  unlocked : (c u : ℕ) → (unit_in s.units c u).interlock ≡ false → ((how : How) → x ≡ Complete c how → ⊥) → interlock_after s x c u ≡ false
  unfolding interlock_after
  unlocked = by_call x
    where
      by-motion : (d : ℕ) (how : How) (m : Motion) (c u : ℕ) → eqb c d ≡ false → is_trouble s.codes how && carried_at s d m c u ≡ false
      by-motion d how None c u n = by_bool (is_trouble s.codes how) (λ t. rw t) (λ t. rw t)
      by-motion d how (Some (j, p)) c u n = rw n (by_bool (is_trouble s.codes how) (λ t. rw t) (λ t. rw t))

      by_call : (x : Call) (c u : ℕ) → (unit_in s.units c u).interlock ≡ false → ((how : How) → x ≡ Complete c how → ⊥)
          → interlock_after s x c u ≡ false
      by_call (Take j asg) c u e o = by_bool (held_by (unit_in (accept s (Take j asg)).units c u).holder j) (λ t. rw t) (λ t. rw (t, e))
      by_call (Do (Act'.Submit j p f d w)) c u e o = by_bool (eqb f 0o07 && is_that c u d.0 (site_of w)) (λ t. rw t) (λ t. rw (t, e))
      by_call (Do (Act'.Start d)) c u e o = e
      by_call (Do (Act'.Complete d how)) c u e o =
          rw (by-motion d.0 how (motion_on s d.0) c u (ne_eqb c d.0 (λ q. o how (ap (λ (n : ℕ). Complete n how) (sym q)))), e)
      by_call (Do (Act'.End j b)) c u e o = e
      by_call (Do (Act'.Return j d v)) c u e o = e
      by_call (Do (Act'.Mark d v m on)) c u e o = e

  stays_open : (c : ℕ) (a : Site) → (unit_at s.units c a).interlock ≡ false → ((how : How) → x ≡ Complete c how → ⊥)
      → (unit_at (accept s x).units c a).interlock ≡ false
  stays_open c (AtUnit u) e o = lock-after s I c u.0 x r ∙ unlocked c u.0 e o
  stays_open c (AtAddress y) e o = refl

  -- what moved before
  moved_open : Opened s → (c j p : ℕ) → motion_on (accept s x) c ≡ Some (j, p) → (x ≡ Start c → ⊥) → ((how : How) → x ≡ Complete c how → ⊥)
      → (unit_at (accept s x).units c (packet_in (accept s x).jobs j p).at).interlock ≡ false
  moved_open O c j p e n o =
      let is : motion_on s c ≡ Some (j, p) = sym (motion-kept s I x r c n o) ∙ e in
      rw (at-kept s I x r c j p is) (stays_open c (packet_in s.jobs j p).at (O c j p is) o)

accept-open : (s : State) → Inv s → Opened s → (x : Call) → refusal s x ≡ Ok tt → Opened (accept s x)
accept-open s I O (Take i asg) r c j p e =
    moved_open s I (Take i asg) r O c j p e (λ q. let y : ◌≡◌ {A = ℕ} 0 1 = cc in omega arith)
    (λ how q. let y : ◌≡◌ {A = ℕ} 0 1 = cc in omega arith)
accept-open s I O (Do (Act'.Submit i n f d w)) r c j p e =
    moved_open s I (Submit i n f d.0 w) r O c j p e (λ q. let y : ◌≡◌ {A = ℕ} 0 1 = cc in omega arith)
    (λ how q. let y : ◌≡◌ {A = ℕ} 0 1 = cc in omega arith)
accept-open s I O (Do (Act'.Start d)) r c j p e =
    by_bool (eqb c d.0)
    (λ t. now (eqb-true c d.0 t))
    (λ t. moved_open s I (Start d.0) r O c j p e (λ q. let y : c ≡ d.0 = cc in eqb-false c d.0 t y)
    (λ how q. let y : ◌≡◌ {A = ℕ} 0 1 = cc in omega arith))
  where
    now : c ≡ d.0 → (unit_at (accept s (Start d.0)).units c (packet_in (accept s (Start d.0)).jobs j p).at).interlock ≡ false
    now same = unfold accept in
        let m = starts-on s d.0 r in
        let y = find-some (find (startable s d.0) s.queue) m.2 in
        let q = find-holds (EntryOk s) (startable s d.0) s.queue y.0 I.queued y.1 in
        let b = packet_in s.jobs (place_of y.0) (packet_of y.0) in
        let e₁ : motion_on (started s d.0 (find (startable s d.0) s.queue)) c ≡ Some (j, p) = e in
        let e₂ : motion_on (begun s d.0 y.0) d.0 ≡ Some (j, p) = rw (y.1, same) at e₁ in
        let z =
        same-motion (place_of y.0) (packet_of y.0) j p
        (sym (motion-move s d.0 (Some (place_of y.0, packet_of y.0)) d.0 (rw I.channels m.0) ∙ rw (eqb-self d.0)) ∙ e₂) in
        let x₁ : j ≡ place_of y.0 = sym z.0 in
        let x₂ : p ≡ packet_of y.0 = sym z.1 in
        let w : (packet_in (begun s d.0 y.0).jobs (place_of y.0) (packet_of y.0)).at ≡ b.at =
        ap (λ (o : Packet). o.at) (start-at s I d.0 m.0 y.0 q.0 (startable-on s d.0 y.0 q.1)) in
        let k : (unit_at (begun s d.0 y.0).units d.0
        (packet_in (begun s d.0 y.0).jobs (place_of y.0) (packet_of y.0)).at).interlock
        ≡ false =
        ap (λ (a : Site). (unit_at s.units d.0 a).interlock) w ∙ not-true _ (and_right (eqb b.channel.0 d.0) _ q.1) in
        rw (y.1, same, x₁, x₂) k
accept-open s I O (Do (Act'.Complete d how)) r c j p e =
    by_bool (eqb c d.0)
    (λ t. absurd (idle (eqb-true c d.0 t)))
    (λ t. moved_open s I (Complete d.0 how) r O c j p e (λ q. let y : ◌≡◌ {A = ℕ} 0 1 = cc in omega arith)
    (λ how' q. let y : c ≡ d.0 = cc in eqb-false c d.0 t y))
  where
    idle : c ≡ d.0 → ⊥
    idle same = unfold accept in
        let m = completes-on s d.0 how r in
        let y = busy-of (motion_on s d.0) m.1 in
        let e₁ : motion_on (completed s d.0 how (motion_on s d.0)) c ≡ Some (j, p) = e in
        let e₂ : motion_on (return_if_done y.0 (finished s d.0 how y.0 y.1)) d.0 ≡ Some (j, p) = rw (y.2, same) at e₁ in
        idle-moves j p (sym (completed-idle s I d.0 m.0 how y.0 y.1) ∙ e₂)
accept-open s I O (Do (Act'.End i b)) r c j p e =
    moved_open s I (End i b) r O c j p e (λ q. let y : ◌≡◌ {A = ℕ} 0 1 = cc in omega arith) (λ how q. let y : ◌≡◌ {A = ℕ} 0 1 = cc in omega arith)
accept-open s I O (Do (Act'.Return i d v)) r c j p e =
    moved_open s I (Return i d.0 v.0) r O c j p e (λ q. let y : ◌≡◌ {A = ℕ} 0 1 = cc in omega arith)
    (λ how q. let y : ◌≡◌ {A = ℕ} 0 1 = cc in omega arith)
accept-open s I O (Do (Act'.Mark d v m on)) r c j p e =
    moved_open s I (Mark d.0 v.0 m on) r O c j p e (λ q. let y : ◌≡◌ {A = ℕ} 0 1 = cc in omega arith)
    (λ how q. let y : ◌≡◌ {A = ℕ} 0 1 = cc in omega arith)

fresh-open : (channels : List Channel) (codes : ℕ) (units : List (List UnitState)) → NoneHeld units → Opened (fresh channels codes units)
unfolding fresh
fresh-open channels codes units free c j p e =
    never {b = is_empty (state_in (fresh channels codes units).jobs j)} (ap is_empty (fresh-state 16 empty_place refl j))
    ((fresh-inv channels codes units free).motion c j p e).alive

pub reached-open : (l : List Event) (s : State) → Reached l s → Opened s
reached-open = by-history Opened (of-fresh Opened fresh-open) (λ l s r O x e. accept-open s (reached-inv l s r) O x e)
