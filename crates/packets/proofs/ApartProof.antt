-- Drum and core stay disjoint: only a taking changes what a place holds, and no other call makes a place live.
-- Assumes nothing.
use Rattle.std.proofs.Common.{None, Ok}
use Prim.Native.Nat.{ℕ, ◌<◌}
use mathlib.Core.Path.{◌≡◌, refl, sym, ap, ◌∙◌}
use mathlib.Core.Bool.{Bool, true, false, cond, ◌&&◌}
use mathlib.Core.List.{List, [], ◌∷◌, map}
use mathlib.Core.Option.{Option, none, some}
use lib.ListN.{length, set}
use lib.Dec.{eqb}
use borrow.Author.Tests.{eqb-true}
use Rattle.numbers.proofs.Stores.{get_d_set}
use Rattle.units.specs.declared.Unit.{Unit as UnitState}
use Rattle.numbers.proofs.Tests.{by_bool, never}
use Rattle.channels.specs.declared.Channel.{Channel}
use Rattle.packets.specs.Apart.{Apart, Disjoint, Fits, Fitting, Part, in_core}
use Rattle.packets.specs.History.{Event, NoneHeld, Reached, empty_place, fresh}
use Rattle.packets.proofs.Reaching.{along-split, by-calls, by-verdict, event, granted-accepted, of-fresh}
use Rattle.packets.proofs.Inv.{Inv, running-alive}
use Rattle.packets.proofs.Laws.{and_left, eqb-self, get_d-set-keep}
use Rattle.numbers.specs.Elements.{find}
use Rattle.packets.specs.Rules.{
  Call,
  Do,
  Take,
  accept,
  aimed,
  always,
  assigned,
  begun,
  broken,
  closed,
  closing,
  code_for,
  cut,
  ended,
  enlist,
  failed,
  finished,
  free_if_returning,
  fresh_job,
  handed_back,
  in_area,
  is_at,
  is_done,
  is_trouble,
  locked,
  marked,
  over,
  packet,
  refusal,
  return_if_done,
  returned,
  site_of,
  startable,
  started,
  submitted,
}
use Rattle.packets.specs.declared.Act.TheVariants as Act'
use Rattle.packets.specs.State.{State, is_closing, is_empty, is_unit, job_in, lock, motion_on, move, no_job, packet_in, packet_of, place_of}
use Rattle.packets.specs.State.{put, restatus, restatus_all, set_state, state_in, store, sweep, with_packets, with_state, with_status}
use Rattle.packets.proofs.Steps.{busy-of, closing-alive, closing-not-running, fresh-state, reached-inv}
use Rattle.packets.proofs.Store.{alive-in, state-fresh, state-put, state-restatus, state-state}
use Rattle.packets.proofs.Told.{assigns-to, completes-on, ends_of}
use Rattle.packets.specs.declared.Assignment.{Assignment}
use Rattle.packets.specs.declared.How.{How}
use Rattle.packets.specs.declared.Job.{Job}
use Rattle.packets.specs.declared.JobState.{JobState}
use Rattle.packets.specs.declared.JobState.TheVariants.{Empty, Running}
use Rattle.packets.specs.declared.Packet.{Packet}
use Rattle.packets.specs.declared.Site.TheVariants.{AtUnit}
use Rattle.packets.specs.declared.Spot.{Spot}
use Rattle.packets.specs.declared.Status.{Status}
use Rattle.packets.specs.declared.Status.TheVariants.{Ended, InProgress, Listed}

-- what a part says does not depend on packets or on the job's state
pub record Lasting (part : Part) : Type 0 where
  pub packets : (k : Job) (ps : List Packet) (x : ℕ) → part (with_packets k ps) x ≡ part k x
  pub state : (k : Job) (t : JobState) (x : ℕ) → part (with_state k t) x ≡ part k x

module _ (part : Part) (L : Lasting part) where
  -- from one state to the next every place holds what it held, and none becomes live
  record Held-on (s s' : State) : Type 0 where
    pub holds : (i x : ℕ) → part (job_in s'.jobs i) x ≡ part (job_in s.jobs i) x
    pub alive : (i : ℕ) → is_empty (state_in s'.jobs i) ≡ false → is_empty (state_in s.jobs i) ≡ false

  same_refl : (s : State) → Held-on s s
  same_refl s = record { holds = λ i x. refl; alive = λ i h. h }

  same-trans : {a b c : State} → Held-on a b → Held-on b c → Held-on a c
  same-trans p q = record { holds = λ i x. q.holds i x ∙ p.holds i x; alive = λ i h. p.alive i (q.alive i h) }

  same_store : (s : State) (j p : ℕ) (q : Packet) → Held-on s (store s j p q)
  unfolding put
  same_store s j p q =
      record {
        holds = λ i x. get_d-set-keep (λ (k : Job). part k x) s.jobs j
            (with_packets (job_in s.jobs j) (set (job_in s.jobs j).packets p q)) i no_job
            (L.packets (job_in s.jobs j) (set (job_in s.jobs j).packets p q) x);
        alive = λ i h. rw (state-put s.jobs j p q i) at h;
      }

  same-sweep : (s : State) (j : ℕ) (t : Packet → Bool) (f : Status → Status) → Held-on s (sweep s j t f)
  unfolding restatus_all
  same-sweep s j t f =
      record {
        holds = λ i x. get_d-set-keep (λ (k : Job). part k x) s.jobs j
            (with_packets (job_in s.jobs j) (map (restatus t f) (job_in s.jobs j).packets)) i no_job
            (L.packets (job_in s.jobs j) (map (restatus t f) (job_in s.jobs j).packets) x);
        alive = λ i h. rw (state-restatus s.jobs j t f i) at h;
      }

  -- a live job closes or returns
  same-state : (s s' : State) (j : ℕ) (t : JobState) → s'.jobs ≡ set_state s.jobs j t → j < length s.jobs
      → is_empty (state_in s.jobs j) ≡ false → Held-on s s'
  same-state s s' j t is inside was =
      record {
        holds = λ i x. ap (λ (jobs : List Job). part (job_in jobs i) x) is ∙ keeps i x;
        alive = λ i h. by_bool (eqb i j) (λ d. rw (eqb-true i j d) was) (λ d. rw (is, state-state s.jobs j t i inside, d) at h);
      }
    where
      keeps : (i x : ℕ) → part (job_in (set_state s.jobs j t) i) x ≡ part (job_in s.jobs i) x
      keeps i x = unfold set_state in
          get_d-set-keep (λ (k : Job). part k x) s.jobs j (with_state (job_in s.jobs j) t) i no_job (L.state (job_in s.jobs j) t x)

  same-return : (s : State) (j : ℕ) → is_empty (state_in s.jobs j) ≡ false → Held-on s (return_if_done j s)
  same-return s j a = by_bool (is_done s j) (λ e. rw e (same-state s (returned s j) j Empty refl (alive-in s.jobs j a) a)) (λ e. rw e (same_refl s))

  -- the units, the list and the channels are not asked
  same-jobs : (s s' : State) → s'.jobs ≡ s.jobs → Held-on s s'
  same-jobs s s' e = record { holds = λ i x. rw e; alive = λ i h. rw e at h }

  same-submit : (s : State) (j p f c : ℕ) (w : Spot) → Held-on s (submitted s j p f c w)
  same-submit s j p f c w =
      let a = site_of w in
      by_bool (eqb f 0o07)
      (λ e. rw e (by_bool (locked s c a)
      (λ d. rw d (same-trans (same-sweep s j (is_at c a) failed)
      (same-trans (same-jobs _ (lock (sweep s j (is_at c a) failed) c a false) refl) (same_store _ j p (packet (Ended 0o00) f c a)))))
      (λ d. rw d (same_store s j p (packet (Ended 0o00) f c a)))))
      (λ e. rw e (by_bool (eqb f 0o23)
      (λ d. rw d (same-trans (same-sweep s j (aimed c w) cut) (same_store _ j p (packet (Ended 0o00) f c a))))
      (λ d. rw d (same-trans (same_store s j p (packet Listed f c a)) (same-jobs _ (enlist s j p f c a) refl)))))

  same-finished : (s : State) (c : ℕ) (how : How) (j p : ℕ) → Held-on s (finished s c how j p)
  same-finished s c how j p =
      let s₁ = over s c j p (code_for how) in
      let o : Held-on s s₁ =
      same-trans (same-jobs s (move s c None) refl)
      (same_store (move s c None) j p (with_status (packet_in s.jobs j p) (Ended (code_for how)))) in
      by_bool (is_trouble s.codes how && is_unit (packet_in s.jobs j p).at)
      (λ e. rw e (same-trans o (same-trans (same-sweep s₁ j (is_at c (packet_in s.jobs j p).at) failed)
      (same-jobs _ (broken s₁ c (packet_in s.jobs j p).at j) refl))))
      (λ e. rw e o)

  apart-same : (s s' : State) → Held-on s s' → Apart part s → Apart part s'
  apart-same s s' k A i j x a b h g = A i j x (k.alive i a) (k.alive j b) (sym (k.holds i x) ∙ h) (sym (k.holds j x) ∙ g)

  -- a taking that fits
  apart-taken : (s : State) (j : ℕ) (asg : Assignment) → j < length s.jobs → Fits part s (Take j asg) → Apart part s
      → Apart part (assigned s j asg)
  apart-taken s j asg inside fits A m n x a b h g =
      let hm : part (cond (eqb m j) (fresh_job asg) (job_in s.jobs m)) x ≡ true = rw (job m) at h in
      let hn : part (cond (eqb n j) (fresh_job asg) (job_in s.jobs n)) x ≡ true = rw (job n) at g in
      let am : is_empty (cond (eqb m j) Running (state_in s.jobs m)) ≡ false = rw (state-fresh s.jobs j asg m inside) at a in
      let bn : is_empty (cond (eqb n j) Running (state_in s.jobs n)) ≡ false = rw (state-fresh s.jobs j asg n inside) at b in
      by_bool (eqb m j)
      (λ d. by_bool (eqb n j)
      (λ e. eqb-true m j d ∙ sym (eqb-true n j e))
      (λ e. absurd (fits n x (rw e at bn) (rw e at hn) (rw d at hm))))
      (λ d. by_bool (eqb n j)
      (λ e. absurd (fits m x (rw d at am) (rw d at hm) (rw e at hn)))
      (λ e. A m n x (rw d at am) (rw e at bn) (rw d at hm) (rw e at hn)))
    where
      job : (i : ℕ) → job_in (set s.jobs j (fresh_job asg)) i ≡ cond (eqb i j) (fresh_job asg) (job_in s.jobs i)
      job i = get_d_set s.jobs j (fresh_job asg) i no_job inside

  accept-apart : (s : State) → Inv s → Apart part s → (x : Call) → refusal s x ≡ Ok tt → Fits part s x → Apart part (accept s x)
  unfolding accept
  accept-apart s I A (Take j asg) r f = apart-taken s j asg (rw I.places (assigns-to s j asg r).0) f A
  accept-apart s I A (Do (Act'.Submit j p f c w)) r k = apart-same s (submitted s j p f c.0 w) (same-submit s j p f c.0 w) A
  accept-apart s I A (Do (Act'.Start c)) r k = go (find (startable s c.0) s.queue)
    where
      go : (o : Option ℕ) → Apart part (started s c.0 o)
      go none = A
      go (some e) =
          apart-same s (begun s c.0 e)
          (same-trans (same_store s (place_of e) (packet_of e) (with_status (packet_in s.jobs (place_of e) (packet_of e)) InProgress))
          (same-jobs _ (begun s c.0 e) refl))
          A
  accept-apart s I A (Do (Act'.Complete c how)) r k =
      let m = completes-on s c.0 how r in
      let o = busy-of (motion_on s c.0) m.1 in
      let s₁ = finished s c.0 how o.0 o.1 in
      let s₂ = return_if_done o.0 s₁ in
      let s₃ = free_if_returning s₂ c.0 (packet_in s.jobs o.0 o.1).at in
      rw o.2 (apart-same s s₃ (same-trans (same-finished s c.0 how o.0 o.1) (same-trans (return-if s₁ o.0) (same-jobs s₂ s₃ refl))) A)
    where
      return-if : (s₁ : State) (j : ℕ) → Held-on s₁ (return_if_done j s₁)
      return-if s₁ j =
          by_bool (is_done s₁ j)
          (λ e. let a = (closing-not-running (state_in s₁.jobs j) (and_left (is_closing (state_in s₁.jobs j)) _ e)).1 in
          rw e (same-state s₁ (returned s₁ j) j Empty refl (alive-in s₁.jobs j a) a))
          (λ e. rw e (same_refl s₁))
  accept-apart s I A (Do (Act'.End j e)) r k =
      let a = running-alive (state_in s.jobs j) (ends_of s j e r) in
      let s₁ = sweep s j always cut in
      let a₁ : is_empty (state_in s₁.jobs j) ≡ false = rw (state-restatus s.jobs j always cut j) a in
      let h₁ = alive-in s₁.jobs j a₁ in
      let a₂ : is_empty (state_in (closed s j e).jobs j) ≡ false = rw (state-state s₁.jobs j (closing e) j h₁, eqb-self j) (closing-alive e) in
      apart-same s (ended s j e)
      (same-trans (same-sweep s j always cut)
      (same-trans (same-state s₁ (closed s j e) j (closing e) refl h₁ a₁) (same-return (closed s j e) j a₂)))
      A
  accept-apart s I A (Do (Act'.Return j c u)) r k =
      let s₁ = sweep s j (is_at c.0 (AtUnit (record { 0 = u.0 }))) cut in
      let s₂ = handed_back s j c.0 (AtUnit (record { 0 = u.0 })) in
      apart-same s s₂ (same-trans (same-sweep s j (is_at c.0 (AtUnit (record { 0 = u.0 }))) cut) (same-jobs s₁ s₂ refl)) A
  accept-apart s I A (Do (Act'.Mark c u m on)) r k = apart-same s (marked s c.0 u.0 m on) (same-jobs s (marked s c.0 u.0 m on) refl) A

  fresh-apart : (channels : List Channel) (codes : ℕ) (units : List (List UnitState)) → NoneHeld units → Apart part (fresh channels codes units)
  unfolding fresh
  fresh-apart channels codes units free i j x a b h g =
      never {b = is_empty (state_in (fresh channels codes units).jobs i)} (ap is_empty (fresh-state 16 empty_place refl i)) a

  -- of a history, as long as its takings fit
  reached-apart : (l : List Event) (s : State) (r : Reached l s) → Fitting part r.from l → Apart part s
  reached-apart l s r =
      by-calls r.from (λ m t. Fitting part r.from m → Apart part t) (λ f. of-fresh (Apart part) fresh-apart r.from r.begins)
      (λ m t d A x f. let k = along-split (λ before y after. Fits part before y) r.from m t (event t x ∷ []) d f in
      let I = reached-inv m t (record { from = r.from; begins = r.begins; leads = d }) in
      by-verdict (Apart part) t (A k.0) x (λ g. accept-apart t I (A k.0) x g (k.1.0 (granted-accepted t x g))))
      l s r.leads

pub disjoint : Disjoint
disjoint l s r = (reached-apart in_area area l s r, reached-apart in_core core l s r)
  where
    area : Lasting in_area
    area = record { packets = λ k ps x. refl; state = λ k t x. refl }

    core : Lasting in_core
    core = record { packets = λ k ps x. refl; state = λ k t x. refl }
