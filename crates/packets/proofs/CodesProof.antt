-- The page Codes holds: each store's effect on each packet, call by call. Assumes nothing.
use Rattle.std.proofs.Common.{Ok, Some}
use Prim.Native.Nat.{ℕ, ◌<◌}
use mathlib.Core.Path.{◌≡◌, refl, ap, ◌∙◌}
use mathlib.Core.Bool.{Bool, true, false, not, cond, ◌&&◌}
use lib.ListN.{length}
use lib.Dec.{eqb}
use borrow.Author.Tests.{eqb-true}
use Rattle.numbers.proofs.Tests.{by_bool, never}
use Rattle.packets.specs.Codes.{Codes, Kept, after_complete, after_submit, code_of, renews, status_after}
use Rattle.packets.proofs.Inv.{EntryOk, Inv, running-alive}
use Rattle.packets.proofs.InvStores.{sweep-inv}
use Rattle.packets.proofs.Laws.{and_left, and_right, find-holds}
use Rattle.packets.proofs.Reaching.{by-verdict}
use Rattle.packets.specs.Lone.{ends_with, stops}
use Rattle.numbers.specs.Elements.{find}
use Rattle.packets.specs.Rules.{
  Call,
  Do,
  Take,
  accept,
  aimed,
  always,
  closed,
  closing,
  code_for,
  cut,
  failed,
  finished,
  is_at,
  is_done,
  is_trouble,
  locked,
  over,
  packet,
  refusal,
  return_if_done,
  site_of,
  startable,
  submitted,
}
use Rattle.packets.specs.declared.Act.TheVariants as Act'
use Rattle.packets.specs.State.{is_packet, State, is_running, is_unit, motion_on, packet_in, packet_of}
use Rattle.packets.specs.State.{place_of, put, restatus_all, state_in, sweep, with_status}
use Rattle.packets.proofs.SimSweep.{cut-stops, failed_ends}
use Rattle.packets.proofs.StepSubmit.{Ready, ready-fits, ready-inside, ready-sweep}
use Rattle.packets.proofs.Steps.{busy-of, find-some, over-fits, over-inside, reached-inv, start_fits, startable-on}
use Rattle.packets.proofs.Store.{alive-in, packet-fresh, packet-put, packet-restatus, packet-state, size_in}
use Rattle.packets.proofs.Told.{Submits, assigns-to, completes-on, cut-going, cut-idle, ends_of}
use Rattle.packets.proofs.Told.{failed-going, failed-idle, returns_of, starts-on, submits}
use Rattle.packets.proofs.Handing.{returns-inside, unit_site}
use Rattle.packets.specs.declared.How.{How}
use Rattle.packets.specs.declared.How.TheVariants.{Cut, Failed, Full}
use Rattle.packets.specs.declared.JobState.TheVariants.{Empty}
use Rattle.packets.specs.declared.Packet.{Packet}
use Rattle.packets.specs.declared.Site.{Site}
use Rattle.packets.specs.declared.Spot.{Spot}
use Rattle.packets.specs.declared.Status.{Status}
use Rattle.packets.specs.declared.Status.TheVariants.{Blank, Ended, InProgress, Listed}

-- one packet stored, and the packets of a job changed
stored-status : (s : State) (j p : ℕ) (q : Packet) → p < size_in s.jobs j → (i n : ℕ)
    → (packet_in (put s.jobs j p q) i n).status ≡ cond (is_packet j p i n) q.status (packet_in s.jobs i n).status
stored-status s j p q fits i n = rw (packet-put s.jobs j p q i n fits) (by_bool (is_packet j p i n) (λ e. rw e) (λ e. rw e))

swept-status : (s : State) (j : ℕ) (t : Packet → Bool) (f g : Status → Status) → ((x : Status) → g x ≡ f x) → j < length s.jobs
    → f Blank ≡ Blank → (i n : ℕ)
    → (packet_in (restatus_all s.jobs j t f) i n).status
    ≡ cond (eqb i j && t (packet_in s.jobs i n)) (g (packet_in s.jobs i n).status) (packet_in s.jobs i n).status
swept-status s j t f g same inside fb i n =
    rw (packet-restatus s.jobs j t f i n inside fb, same (packet_in s.jobs i n).status)
    (by_bool (eqb i j) (λ e. rw e (by_bool (t (packet_in s.jobs i n)) (λ d. rw d) (λ d. rw d))) (λ e. rw e))

module _ (s : State) (I : Inv s) (j p f c : ℕ) (w : Spot) (k : Submits s j p f c w) (i n : ℕ) where
  abbrev a : Site
  a = site_of w

  now-ready : Ready s j p
  now-ready = record { small = k.small; running = k.running; idle = k.idle }

  submit-status : (packet_in (submitted s j p f c w).jobs i n).status ≡ after_submit s j p f c w i n
  submit-status =
      let inside = ready-inside s j p now-ready in
      by_bool (eqb f 0o07)
      (λ e. by_bool (locked s c a)
      (λ d. let s₁ = sweep s j (is_at c a) failed in
      let I₁ : Inv s₁ = sweep-inv s I j (is_at c a) failed inside refl failed-going in
      let r₁ : Ready s₁ j p = ready-sweep s j p (is_at c a) failed refl failed-idle now-ready in
      rw (e, d)
      (stored-status s₁ j p (packet (Ended 0o00) f c a) (ready-fits s₁ I₁ j p r₁) i n
      ∙ rw (swept-status s j (is_at c a) failed (ends_with 0o01) failed_ends inside refl i n)
      (by_bool (is_packet j p i n) (λ g. rw g)
      (λ g. rw g (by_bool (eqb i j) (λ h. rw h (by_bool (is_at c a (packet_in s.jobs i n)) (λ m. rw m) (λ m. rw m))) (λ h. rw h))))))
      (λ d. rw (e, d)
      (stored-status s j p (packet (Ended 0o00) f c a) (ready-fits s I j p now-ready) i n
      ∙ by_bool (is_packet j p i n) (λ g. rw g) (λ g. rw g (by_bool (eqb i j) (λ h. rw h) (λ h. rw h))))))
      (λ e. by_bool (eqb f 0o23)
      (λ d. let t = aimed c w in
      let s₁ = sweep s j t cut in
      let I₁ : Inv s₁ = sweep-inv s I j t cut inside refl cut-going in
      let r₁ : Ready s₁ j p = ready-sweep s j p t cut refl cut-idle now-ready in
      rw (e, d)
      (stored-status s₁ j p (packet (Ended 0o00) f c a) (ready-fits s₁ I₁ j p r₁) i n
      ∙ rw (swept-status s j t cut (λ x. stops (ends_with 0o16 x)) cut-stops inside refl i n)
      (by_bool (is_packet j p i n) (λ g. rw g)
      (λ g. rw g (by_bool (eqb i j) (λ h. rw h (by_bool (aimed c w (packet_in s.jobs i n)) (λ m. rw m) (λ m. rw m))) (λ h. rw h))))))
      (λ d. rw (e, d)
      (stored-status s j p (packet Listed f c a) (ready-fits s I j p now-ready) i n
      ∙ by_bool (is_packet j p i n) (λ g. rw g) (λ g. rw g (by_bool (eqb i j) (λ h. rw h) (λ h. rw h))))))

code_is : (how : How) → code_for how ≡ code_of how
code_is Full = refl
code_is Cut = refl
code_is (Failed k) = refl

returned-status : (s : State) (j i n : ℕ) → (packet_in (return_if_done j s).jobs i n).status ≡ (packet_in s.jobs i n).status
returned-status s j i n = by_bool (is_done s j) (λ e. rw (e, packet-state s.jobs j Empty i n)) (λ e. rw e)

module _ (s : State) (I : Inv s) (c : ℕ) (small : c < 16) (how : How) (j p : ℕ) (is : motion_on s c ≡ Some (j, p)) (i n : ℕ) where
  pub finished-status : (packet_in (finished s c how j p).jobs i n).status ≡ after_complete s c how (Some (j, p)) i n
  finished-status =
      let q = with_status (packet_in s.jobs j p) (Ended (code_for how)) in
      let s₁ = over s c j p (code_for how) in
      let a = (packet_in s.jobs j p).at in
      let read : packet_in s₁.jobs i n ≡ cond (is_packet j p i n) q (packet_in s.jobs i n) =
      packet-put s.jobs j p q i n (over-fits s I c small j p is) in
      by_bool (is_trouble s.codes how && is_unit (packet_in s.jobs j p).at)
      (λ e. rw e
      (swept-status s₁ j (is_at c a) failed (ends_with 0o01) failed_ends (over-inside s I c small j p is (code_for how)) refl i n
      ∙ rw read
      (by_bool (is_packet j p i n)
      (λ g. rw g (by_bool (eqb i j && is_at c a q) (λ m. rw m (ap Ended (code_is how))) (λ m. rw m (ap Ended (code_is how)))))
      (λ g. rw g))))
      (λ e. rw (e, read)
      (by_bool (is_packet j p i n) (λ g. rw g (ap Ended (code_is how))) (λ g. rw g (by_bool (eqb i j) (λ h. rw h) (λ h. rw h)))))

pub closed-status : (s : State) (j : ℕ) (e : Bool) → is_running (state_in s.jobs j) ≡ true → (i n : ℕ)
    → (packet_in (closed s j e).jobs i n).status ≡ cond (eqb i j) (cut (packet_in s.jobs i n).status) (packet_in s.jobs i n).status
closed-status s j e r i n =
    ap (λ (q : Packet). q.status) (packet-state (restatus_all s.jobs j always cut) j (closing e) i n)
    ∙ swept-status s j always cut cut (λ x. refl) (alive-in s.jobs j (running-alive (state_in s.jobs j) r)) refl i n
    ∙ by_bool (eqb i j) (λ d. rw d) (λ d. rw d)

pub status-after : (s : State) → Inv s → (x : Call) → refusal s x ≡ Ok tt → (i n : ℕ)
    → (packet_in (accept s x).jobs i n).status ≡ status_after s x i n
unfolding accept status_after
status-after s I (Take j asg) r i n =
    rw (packet-fresh s.jobs j asg i (rw I.places (assigns-to s j asg r).0) n) (by_bool (eqb i j) (λ e. rw e) (λ e. rw e))
status-after s I (Do (Act'.Submit j p f c w)) r i n = submit-status s I j p f c.0 w (submits s j p f c.0 w r) i n
status-after s I (Do (Act'.Start c)) r i n =
    let k = starts-on s c.0 r in
    let o = find-some (find (startable s c.0) s.queue) k.2 in
    let e = o.0 in
    let z = find-holds (EntryOk s) (startable s c.0) s.queue e I.queued o.1 in
    rw o.1
    (stored-status s (place_of e) (packet_of e) (with_status (packet_in s.jobs (place_of e) (packet_of e)) InProgress)
    (start_fits s I c.0 k.0 e z.0 (startable-on s c.0 e z.1)) i n)
status-after s I (Do (Act'.Complete c how)) r i n =
    let k = completes-on s c.0 how r in
    let o = busy-of (motion_on s c.0) k.1 in
    rw o.2 (returned-status (finished s c.0 how o.0 o.1) o.0 i n ∙ finished-status s I c.0 k.0 how o.0 o.1 o.2 i n)
status-after s I (Do (Act'.End j e)) r i n =
    returned-status (closed s j e) j i n ∙ closed-status s j e (ends_of s j e r) i n ∙ rw (cut-stops (packet_in s.jobs i n).status)
status-after s I (Do (Act'.Return j c u)) r i n =
    swept-status s j (is_at c.0 (unit_site u.0)) cut (λ x. stops (ends_with 0o16 x)) cut-stops
    (returns-inside s I j c.0 u.0 (returns_of s j c.0 u.0 r)) refl i n
status-after s I (Do (Act'.Mark c u m on)) r i n = refl

pub codes : Codes
codes l s r x g i n = status-after s (reached-inv l s r) x g i n

-- ---- an ended packet keeps its code

-- of the changes only a renewal changes an ended status; what starts or completes was listed or moved
keeps-code : (s : State) → Inv s → (x : Call) → refusal s x ≡ Ok tt → (i n k : ℕ) → (packet_in s.jobs i n).status ≡ Ended k → renews x i n ≡ false
    → status_after s x i n ≡ Ended k
unfolding status_after
keeps-code s I (Take j asg) r i n k e b = rw b e
keeps-code s I (Do (Act'.Submit j p f c w)) r i n k e b =
    rw (b, e)
    (by_bool (eqb i j && (eqb f 0o07 && (locked s c.0 (site_of w) && is_at c.0 (site_of w) (packet_in s.jobs i n))))
    (λ d. rw d)
    (λ d. rw d (by_bool (eqb i j && (not (eqb f 0o07) && (eqb f 0o23 && aimed c.0 w (packet_in s.jobs i n)))) (λ g. rw g) (λ g. rw g))))
keeps-code s I (Do (Act'.Start c)) r i n k e b =
    let z = starts-on s c.0 r in
    let o = find-some (find (startable s c.0) s.queue) z.2 in
    let l = (find-holds (EntryOk s) (startable s c.0) s.queue o.0 I.queued o.1).0.listed in
    rw o.1
    (by_bool (is_packet (place_of o.0) (packet_of o.0) i n)
    (λ t. let x : i ≡ place_of o.0 = eqb-true i (place_of o.0) (and_left (eqb i (place_of o.0)) _ t) in
    let y : n ≡ packet_of o.0 = eqb-true n (packet_of o.0) (and_right (eqb i (place_of o.0)) _ t) in
    let e' : (packet_in s.jobs (place_of o.0) (packet_of o.0)).status ≡ Ended k = rw (x, y) at e in
    never {b = false} (rw e' at l) refl)
    (λ t. rw (t, e)))
keeps-code s I (Do (Act'.Complete c how)) r i n k e b =
    let z = completes-on s c.0 how r in
    let o = busy-of (motion_on s c.0) z.1 in
    let g = (I.motion c.0 o.0 o.1 o.2).going in
    rw o.2
    (by_bool (is_packet o.0 o.1 i n)
    (λ t.
    let x : i ≡ o.0 = eqb-true i o.0 (and_left (eqb i o.0) _ t) in
    let y : n ≡ o.1 = eqb-true n o.1 (and_right (eqb i o.0) _ t) in
    let e' : (packet_in s.jobs o.0 o.1).status ≡ Ended k = rw (x, y) at e in
    never {b = false} (rw e' at g) refl)
    (λ t. rw (t, e)
    (by_bool (eqb i o.0 && ((is_trouble s.codes how && is_unit (packet_in s.jobs o.0 o.1).at)
    && is_at c.0 (packet_in s.jobs o.0 o.1).at (packet_in s.jobs i n)))
    (λ d. rw d) (λ d. rw d))))
keeps-code s I (Do (Act'.End j err)) r i n k e b = rw e (by_bool (eqb i j) (λ d. rw d) (λ d. rw d))
keeps-code s I (Do (Act'.Return j c u)) r i n k e b =
    rw e (by_bool (eqb i j && is_at c.0 (unit_site u.0) (packet_in s.jobs i n)) (λ d. rw d) (λ d. rw d))
keeps-code s I (Do (Act'.Mark c u m on)) r i n k e b = e

pub kept : Kept
kept l s r x i n k e b =
    let I = reached-inv l s r in
    by-verdict (λ (t : State). (packet_in t.jobs i n).status ≡ Ended k) s e x (λ g. status-after s I x g i n ∙ keeps-code s I x g i n k e b)
