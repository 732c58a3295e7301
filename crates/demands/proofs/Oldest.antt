-- THE LIST IS IN THE ORDER OF SUBMISSION, shown call by call: what is no longer listed leaves it, the others keep their
-- order, and a packet that is submitted and listed joins at its end. Assumes nothing.
use Rattle.std.proofs.Common.{Ok, Some}
use Prim.Native.Nat.{ℕ, ◌<◌}
use mathlib.Core.Path.{◌≡◌, refl, sym, ap, subst, ◌∙◌}
use mathlib.Core.Bool.{Bool, true, false, cond, ◌&&◌, ◌||◌}
use mathlib.Core.List.{List, [], ◌∷◌, ◌++◌, append-nil}
use mathlib.Core.Option.{Option, some}
use lib.Dec.{eqb}
use lib.ListN.{length}
use borrow.Author.Tests.{eqb-true}
use Rattle.numbers.proofs.Tests.{by_bool, never}
use Rattle.numbers.specs.Elements.{All, find, keep}
use Rattle.packets.specs.Rules as Rules
use Rattle.packets.specs.Rules.{aimed, always, closed, closing, code_for, cut, failed, finished, fresh_job, is_at, is_done, is_trouble, locked, over, packet, return_if_done, site_of, startable, started, submitted}
use Rattle.packets.specs.State.{State, entry_of, is_empty, is_listed, is_still, is_unit, motion_on, packet_in, packet_of, packets_in, place_of, put, lock, relist, restatus, restatus_all, state_in, store, sweep, with_status}
use Rattle.packets.specs.declared.Act.TheVariants as Act'
use Rattle.packets.proofs.ByNumber.{Complete, Start}
use Rattle.packets.specs.declared.Assignment.{Assignment}
use Rattle.packets.specs.declared.How.{How}
use Rattle.packets.specs.declared.Job.{Job}
use Rattle.packets.specs.declared.JobState.TheVariants.{Empty}
use Rattle.packets.specs.declared.Packet.{Packet}
use Rattle.packets.specs.declared.Site.{Site}
use Rattle.packets.specs.declared.Site.TheVariants.{AtUnit}
use Rattle.packets.specs.declared.Spot.{Spot}
use Rattle.packets.specs.declared.Status.{Status}
use Rattle.packets.specs.declared.Status.TheVariants.{Blank, Ended, InProgress, Listed, Stopping}
use Rattle.packets.proofs.Inv.{Elsewhere, EntryOk, Inv, kept-still, running-alive}
use Rattle.packets.proofs.InvStores.{enlisted-is, put-elsewhere, restatus-elsewhere}
use Rattle.packets.proofs.Laws.{all-imp, find-holds, keep_all, keep_same}
use Rattle.packets.proofs.StepSubmit.{Ready, listed-new, ready-fits, ready-inside, ready-store}
use Rattle.packets.proofs.Steps.{busy-of, find-some, over-fits, over-inside, start_fits, startable-on}
use Rattle.packets.proofs.Store.{alive-in, size-restatus, packet-fresh, packet-put, packet-restatus, packet-state, size_in}
use Rattle.packets.proofs.Told.{Submits, assigns-to, completes-on, cut-unlisted, ends_of, returns_of, starts-on, submits}
use Rattle.packets.proofs.Handing.{returns-inside}
use Rattle.demands.specs.Demands.{joins}

-- ---- thinning: what is still listed stays, in its order

abbrev Still : State → Type 0
Still s = All (λ (e : ℕ). is_still s.jobs e ≡ true) s.queue

pub record Thins (s s' : State) : Type 0 where
  pub queue : s'.queue ≡ keep (is_still s'.jobs) s.queue
  pub fewer : (e : ℕ) → is_still s'.jobs e ≡ true → is_still s.jobs e ≡ true

keep-holds : (f : ℕ → Bool) (l : List ℕ) → All (λ (e : ℕ). f e ≡ true) (keep f l)
keep-holds f [] = tt
keep-holds f (x ∷ l) = by_bool (f x) (λ t. rw t (t, keep-holds f l)) (λ t. rw t (keep-holds f l))

keep-twice : (f g : ℕ → Bool) → ((e : ℕ) → g e ≡ true → f e ≡ true) → (l : List ℕ) → keep g (keep f l) ≡ keep g l
keep-twice f g w [] = refl
keep-twice f g w (x ∷ l) =
    by_bool (f x)
    (λ t. rw t (by_bool (g x) (λ h. rw h (ap (λ (r : List ℕ). x ∷ r) (keep-twice f g w l))) (λ h. rw h (keep-twice f g w l))))
    (λ t. rw t (by_bool (g x) (λ h. absurd (never (w x h) t)) (λ h. rw h (keep-twice f g w l))))

thins-still : (s s' : State) → Thins s s' → Still s'
thins-still s s' t = subst (All (λ (e : ℕ). is_still s'.jobs e ≡ true)) (sym t.queue) (keep-holds (is_still s'.jobs) s.queue)

thins-on : (s s₁ s₂ : State) → Thins s s₁ → Thins s₁ s₂ → Thins s s₂
thins-on s s₁ s₂ a b =
    record {
      queue = b.queue ∙ ap (keep (is_still s₂.jobs)) a.queue ∙ keep-twice (is_still s₁.jobs) (is_still s₂.jobs) b.fewer s.queue;
      fewer = λ e h. a.fewer e (b.fewer e h);
    }

relisted : (old jobs : List Job) (j : ℕ) (q : List ℕ) → Elsewhere j old jobs → All (λ (e : ℕ). is_still old e ≡ true) q
    → relist j (packets_in jobs j) q ≡ keep (is_still jobs) q
unfolding relist
relisted old jobs j q same h = keep_same _ (is_still jobs) q (all-imp (λ (e : ℕ). is_still old e ≡ true) _ (λ e l. kept-still j old jobs same e l) q h)

-- one packet is stored that is not listed
thins-store : (s : State) (j p : ℕ) (q : Packet) → p < size_in s.jobs j → is_listed q.status ≡ false → Still s → Thins s (store s j p q)
thins-store s j p q fits n h =
    record {
      queue = relisted s.jobs (put s.jobs j p q) j s.queue (put-elsewhere s.jobs j p q fits) h;
      fewer = λ e l.
          let a : is_listed (cond (eqb (place_of e) j && eqb (packet_of e) p) q (packet_in s.jobs (place_of e) (packet_of e))).status ≡ true =
          sym (ap (λ (x : Packet). is_listed x.status) (packet-put s.jobs j p q (place_of e) (packet_of e) fits)) ∙ l in
          by_bool (eqb (place_of e) j && eqb (packet_of e) p) (λ t. never (rw t at a) n) (λ t. rw t at a);
    }

-- the packets of a job change, and none becomes listed
thins-sweep : (s : State) (j : ℕ) (t : Packet → Bool) (f : Status → Status) → j < length s.jobs → f Blank ≡ Blank
    → ((x : Status) → is_listed (f x) ≡ true → is_listed x ≡ true) → Still s → Thins s (sweep s j t f)
thins-sweep s j t f inside fb w h =
    record {
      queue = relisted s.jobs (restatus_all s.jobs j t f) j s.queue (restatus-elsewhere s.jobs j t f inside fb) h;
      fewer = λ e l.
          let q = packet_in s.jobs (place_of e) (packet_of e) in
          let a : is_listed (packet_in (restatus_all s.jobs j t f) (place_of e) (packet_of e)).status ≡ true = l in
          let r = packet-restatus s.jobs j t f (place_of e) (packet_of e) inside fb in
          by_bool (eqb (place_of e) j)
          (λ x. let z : packet_in (restatus_all s.jobs j t f) (place_of e) (packet_of e) ≡ restatus t f q = r ∙ rw x refl in
          let b : is_listed (cond (t q) (f q.status) q.status) ≡ true = sym (ap (λ (y : Packet). is_listed y.status) z) ∙ a in
          by_bool (t q) (λ y. w q.status (rw y at b)) (λ y. rw y at b))
          (λ x. let z : packet_in (restatus_all s.jobs j t f) (place_of e) (packet_of e) ≡ q = r ∙ rw x refl in
          sym (ap (λ (y : Packet). is_listed y.status) z) ∙ a);
    }

-- neither packets nor list change
thins_same : (s s' : State) → s'.queue ≡ s.queue → ((i n : ℕ) → packet_in s'.jobs i n ≡ packet_in s.jobs i n) → Still s → Thins s s'
thins_same s s' q e h =
    let is : (x : ℕ) → is_still s'.jobs x ≡ is_still s.jobs x = λ x. ap (λ (y : Packet). is_listed y.status) (e (place_of x) (packet_of x)) in
    record {
      queue = q ∙ sym (keep_all (is_still s'.jobs) s.queue
          (all-imp (λ (x : ℕ). is_still s.jobs x ≡ true) (λ (x : ℕ). is_still s'.jobs x ≡ true) (λ x k. is x ∙ k) s.queue h));
      fewer = λ x l. sym (is x) ∙ l;
    }

-- ---- what the rules do to statuses

failed-less : (x : Status) → is_listed (failed x) ≡ true → is_listed x ≡ true
failed-less Blank e = e
failed-less Listed e = refl
failed-less InProgress e = e
failed-less Stopping e = e
failed-less (Ended k) e = e

cut-less : (x : Status) → is_listed (cut x) ≡ true → is_listed x ≡ true
cut-less x e = never e (cut-unlisted x)

still-all : (s : State) → Inv s → Still s
still-all s I = all-imp (EntryOk s) (λ (e : ℕ). is_still s.jobs e ≡ true) (λ e k. k.listed) s.queue I.queued

-- a return, if the job is done
thins-returned : (s : State) (j : ℕ) → Still s → Thins s (return_if_done j s)
thins-returned s j h =
    by_bool (is_done s j)
    (λ t. rw t (thins_same s (Rules.returned s j) refl (λ i n. packet-state s.jobs j Empty i n) h))
    (λ t. rw t (thins_same s s refl (λ i n. refl) h))

-- ---- call by call

abbrev Ordered : State → Rules.Call → State → Type 0
Ordered s x s' = s'.queue ≡ keep (is_still s'.jobs) s.queue ++ joins x

thinned : (s s' : State) → Thins s s' → s'.queue ≡ keep (is_still s'.jobs) s.queue ++ []
thinned s s' t = t.queue ∙ sym (append-nil (keep (is_still s'.jobs) s.queue))

module _ (s : State) (I : Inv s) (j p f c : ℕ) (w : Spot) (k : Submits s j p f c w) where
  abbrev a : Site
  a = site_of w

  now-ready : Ready s j p
  now-ready = record { small = k.small; running = k.running; idle = k.idle }

  -- what is stored without being listed, after a sweep or not
  passed : (s₁ : State) → Thins s s₁ → p < size_in s₁.jobs j → Thins s (store s₁ j p (packet (Ended 0o00) f c a))
  passed s₁ t fits =
      thins-on s s₁ (store s₁ j p (packet (Ended 0o00) f c a)) t (thins-store s₁ j p (packet (Ended 0o00) f c a) fits refl (thins-still s s₁ t))

  sized-swept : (t : Packet → Bool) (g : Status → Status) → p < size_in (restatus_all s.jobs j t g) j
  sized-swept t g = rw (size-restatus s.jobs j t g j) (ready-fits s I j p now-ready)

  order-submit : (submitted s j p f c w).queue
      ≡ keep (is_still (submitted s j p f c w).jobs) s.queue ++ cond (eqb f 0o07 || eqb f 0o23) [] (entry_of j p ∷ [])
  order-submit =
      let inside = ready-inside s j p now-ready in
      let h = still-all s I in
      by_bool (eqb f 0o07)
      (λ e. by_bool (locked s c a)
      (λ d. rw (e, d)
      (let s₁ = sweep s j (is_at c a) failed in
      let t₁ : Thins s s₁ = thins-sweep s j (is_at c a) failed inside refl failed-less h in
      let s₂ = lock s₁ c a false in
      let t₂ : Thins s s₂ = record { queue = t₁.queue; fewer = t₁.fewer } in
      thinned s (store s₂ j p (packet (Ended 0o00) f c a)) (passed s₂ t₂ (sized-swept (is_at c a) failed))))
      (λ d. rw (e, d) (thinned s (store s j p (packet (Ended 0o00) f c a))
      (thins-store s j p (packet (Ended 0o00) f c a) (ready-fits s I j p now-ready) refl h))))
      (λ e. by_bool (eqb f 0o23)
      (λ d. rw (e, d)
      (let t = aimed c w in
      thinned s (store (sweep s j t cut) j p (packet (Ended 0o00) f c a))
      (passed (sweep s j t cut) (thins-sweep s j t cut inside refl cut-less h) (sized-swept t cut))))
      (λ d. rw (e, d)
      (let q = packet Listed f c a in
      enlisted-is (store s j p q) (ready-store s I j p q now-ready) j p (listed-new s I j p f c w k)
      ∙ ap (λ (l : List ℕ). l ++ (entry_of j p ∷ []))
      (relisted s.jobs (put s.jobs j p q) j s.queue (put-elsewhere s.jobs j p q (ready-fits s I j p now-ready)) h))))

module _ (s : State) (I : Inv s) (c : ℕ) (small : c < 16) (how : How) (j p : ℕ) (is : motion_on s c ≡ Some (j, p)) where
  thins-over : Thins s (over s c j p (code_for how))
  thins-over =
      let t = thins-store s j p (with_status (packet_in s.jobs j p) (Ended (code_for how))) (over-fits s I c small j p is) refl (still-all s I) in
      record { queue = t.queue; fewer = t.fewer }

  thins-finished : Thins s (finished s c how j p)
  thins-finished =
      let s₁ = over s c j p (code_for how) in
      let a = (packet_in s.jobs j p).at in
      by_bool (is_trouble s.codes how && is_unit a)
      (λ e. rw e
      (let t =
      thins-on s s₁ (sweep s₁ j (is_at c a) failed) thins-over
      (thins-sweep s₁ j (is_at c a) failed (over-inside s I c small j p is (code_for how)) refl failed-less (thins-still s s₁ thins-over)) in
      record { queue = t.queue; fewer = t.fewer }))
      (λ e. rw e thins-over)

order-taken : (s : State) → Inv s → (j : ℕ) (asg : Assignment) → j < 16 → is_empty (state_in s.jobs j) ≡ true
    → s.queue ≡ keep (is_still (Rules.assigned s j asg).jobs) s.queue ++ []
order-taken s I j asg small none-there =
    sym (append-nil (keep (is_still (Rules.assigned s j asg).jobs) s.queue)
    ∙ keep_all (is_still (Rules.assigned s j asg).jobs) s.queue
    (all-imp (EntryOk s) (λ (e : ℕ). is_still (Rules.assigned s j asg).jobs e ≡ true)
    (λ e k. by_bool (eqb (place_of e) j)
    (λ t. never none-there (subst (λ (n : ℕ). is_empty (state_in s.jobs n) ≡ false) (eqb-true (place_of e) j t)
    (running-alive (state_in s.jobs (place_of e)) k.running)))
    (λ t.
    let z : packet_in (Rules.assigned s j asg).jobs (place_of e) (packet_of e) ≡ packet_in s.jobs (place_of e) (packet_of e) =
    packet-fresh s.jobs j asg (place_of e) (rw I.places small) (packet_of e) ∙ rw t refl in
    ap (λ (y : Packet). is_listed y.status) z ∙ k.listed))
    s.queue I.queued))

-- THE LIST AFTER AN ACCEPTED CALL
pub ordered : (s : State) → Inv s → (x : Rules.Call) → Rules.refusal s x ≡ Ok tt → Ordered s x (Rules.accept s x)
unfolding Rules.accept
ordered s I (Rules.Take j asg) r = order-taken s I j asg (assigns-to s j asg r).0 (assigns-to s j asg r).1
ordered s I (Rules.Do (Act'.Submit j p f c w)) r = order-submit s I j p f c.0 w (submits s j p f c.0 w r)
ordered s I (Rules.Do (Act'.Start c)) r =
    let k = starts-on s c.0 r in
    let o = find-some (find (startable s c.0) s.queue) k.2 in
    let e = o.0 in
    let z = find-holds (EntryOk s) (startable s c.0) s.queue e I.queued o.1 in
    let q = with_status (packet_in s.jobs (place_of e) (packet_of e)) InProgress in
    let t = thins-store s (place_of e) (packet_of e) q (start_fits s I c.0 k.0 e z.0 (startable-on s c.0 e z.1)) refl
    (still-all s I) in
    subst (λ (m : Option ℕ). Ordered s (Start c.0) (started s c.0 m)) (sym o.1)
    (thinned s (started s c.0 (some e)) (record { queue = t.queue; fewer = t.fewer }))
ordered s I (Rules.Do (Act'.Complete c how)) r =
    let k = completes-on s c.0 how r in
    let o = busy-of (motion_on s c.0) k.1 in
    let s₁ = finished s c.0 how o.0 o.1 in
    let t = thins-finished s I c.0 k.0 how o.0 o.1 o.2 in
    subst (λ m. Ordered s (Complete c.0 how) (Rules.completed s c.0 how m)) (sym o.2)
    (thinned s (return_if_done o.0 s₁) (thins-on s s₁ (return_if_done o.0 s₁) t (thins-returned s₁ o.0 (thins-still s s₁ t))))
ordered s I (Rules.Do (Act'.End j e)) r =
    let inside = alive-in s.jobs j (running-alive (state_in s.jobs j) (ends_of s j e r)) in
    let s₁ = sweep s j always cut in
    let t = thins-sweep s j always cut inside refl cut-less (still-all s I) in
    let s₂ = closed s j e in
    let t₂ : Thins s s₂ =
    thins-on s s₁ s₂ t
    (thins_same s₁ s₂ refl (λ i n. packet-state (restatus_all s.jobs j always cut) j (closing e) i n) (thins-still s s₁ t)) in
    thinned s (return_if_done j s₂) (thins-on s s₂ (return_if_done j s₂) t₂ (thins-returned s₂ j (thins-still s s₂ t₂)))
ordered s I (Rules.Do (Act'.Return j c u)) r =
    let a = AtUnit u in
    thinned s (sweep s j (is_at c.0 a) cut)
    (thins-sweep s j (is_at c.0 a) cut (returns-inside s I j c.0 u.0 (returns_of s j c.0 u.0 r)) refl cut-less (still-all s I))
ordered s I (Rules.Do (Act'.Mark c u m on)) r =
    thinned s (Rules.marked s c.0 u.0 m on) (thins_same s (Rules.marked s c.0 u.0 m on) refl (λ i n. refl) (still-all s I))
