-- A packet that is listed, in progress or stopping on the drum is at an address of its job's area: its submission
-- would have been refused otherwise, and neither its address nor the area changes until it has ended. Assumes
-- nothing.
use Rattle.std.proofs.Common.{Ok}
use Prim.Native.Nat.{ℕ, ◌+◌, ◌<◌}
use mathlib.Core.Path.{◌≡◌, refl, sym, ap, ◌∙◌}
use mathlib.Core.Bool.{Bool, true, false, cond, ◌&&◌, ◌||◌}
use mathlib.Core.List.{[]}
use native.Mathlib.Omega.{arith}
use lib.Dec.{eqb, leb, ltb}
use lib.ListN.{length}
use borrow.Author.Tests.{eqb-true}
use Rattle.numbers.proofs.Tests.{by_bool, never}
use Rattle.units.specs.declared.Holder.{Holder}
use Rattle.packets.proofs.AlwaysProof.{invariants}
use Rattle.packets.specs.Codes.{status_after}
use Rattle.packets.proofs.CodesProof.{status-after}
use Rattle.packets.specs.Demand.{Holding}
use Rattle.packets.specs.History.{Begins, empty_place, fresh}
use Rattle.packets.proofs.Reaching.{by-history, reached-first}
use Rattle.packets.proofs.Inv.{EntryOk, Inv, listed-busy, running-alive}
use Rattle.packets.proofs.Laws.{and_left, and_right, eqb-self, find-holds, get_d-set-keep}
use Rattle.numbers.proofs.Stores.{get_d_set}
use Rattle.numbers.specs.Elements.{find}
use Rattle.packets.specs.Rules.{
  Call,
  Do,
  Take,
  accept,
  always,
  assigned,
  begun,
  closed,
  closing,
  completed,
  cut,
  ended,
  finished,
  fresh_job,
  handed_back,
  in_area,
  is_at,
  is_done,
  is_own,
  refusal,
  return_if_done,
  site_of,
  startable,
  started,
  submitted,
}
use Rattle.packets.proofs.ByNumber.{Submit}
use Rattle.packets.specs.declared.Act.TheVariants as Act'
use Rattle.packets.proofs.SeenLaws.{Calm, calm-finished, calm_return, calm-same, calm-status, calm-submit, calm-sweep, calm-trans, submitted-read}
use Rattle.packets.specs.State.{State, is_busy, is_empty, job_in, motion_on, no_job, packet_in, packet_of, place_of}
use Rattle.packets.specs.State.{restatus_all, set_state, state_in, sweep, unit_at, with_state}
use Rattle.packets.proofs.Steps.{busy-of, find-some, fresh-state, reached-inv, start_fits, startable-on}
use Rattle.packets.proofs.Store.{alive-in, packet-fresh, packet-state}
use Rattle.packets.proofs.Told.{assigns-to, completes-on, cut-idle, ends_of, returns_of, starts-on, submits}
use Rattle.packets.proofs.Handing.{returns-inside, unit_site}
use Rattle.packets.specs.declared.Job.{Job}
use Rattle.packets.specs.declared.JobState.TheVariants.{Empty}
use Rattle.packets.specs.declared.Packet.{Packet}
use Rattle.packets.specs.declared.Site.TheVariants.{AtAddress}
use Rattle.packets.specs.declared.Spot.{Spot}
use Rattle.packets.specs.declared.Spot.TheVariants.{OnDrum, OnUnit}
use Rattle.packets.specs.declared.Status.TheVariants.{Ended, InProgress, Listed}
use Rattle.packets_given.specs.Given.{AtItsArea, OnItsOwnWords}
use Rattle.packets_given.proofs.SameLaws.{Share, same-begun, same-closed, same-finished, same-submit, same-swept, share}

-- ---- one packet

-- what is kept, of one packet
abbrev Good : State → ℕ → ℕ → Type 0
Good s i n =
    is_busy (packet_in s.jobs i n).status ≡ true → (x : ℕ) → (packet_in s.jobs i n).at ≡ AtAddress x → in_area (job_in s.jobs i) x ≡ true

-- a holding of the job in place i
abbrev its : ℕ → Holding
its i = record { place = i; channel = 0; drum = false; unit = 0 }

-- the area by a job's share
area_same : (a b : Job) (x : ℕ) → share a ≡ share b → in_area a x ≡ in_area b x
area_same a b x e = ap (λ (k : Share). leb k.from x && ltb x (k.from + k.words)) e

-- a call that leaves a packet where it was submitted and its job's share, and makes it busy only if it was
good-calm : (s s' : State) (i n : ℕ) → Calm (its i) s s' n → share (job_in s'.jobs i) ≡ share (job_in s.jobs i)
    → Good s i n → Good s' i n
good-calm s s' i n c v k b x d = area_same (job_in s'.jobs i) (job_in s.jobs i) x v ∙ k (c.1 b) x (sym c.2 ∙ d)

-- ---- every call

-- a return leaves every job's share
return-share : (s : State) (j i : ℕ) → share (job_in (return_if_done j s).jobs i) ≡ share (job_in s.jobs i)
unfolding set_state
return-share s j i =
    by_bool (is_done s j)
    (λ e. rw e (get_d-set-keep share s.jobs j (with_state (job_in s.jobs j) Empty) i no_job refl))
    (λ e. rw e)

-- only an ordinary function is listed
listed-only : (a b : Bool) → is_busy (cond (a || b) (Ended 0o00) Listed) ≡ true → b ≡ false
listed-only true b e = never {b = false} e refl
listed-only false true e = never {b = false} e refl
listed-only false false e = refl

-- an address that is the job's is of its area, but for 23
own-words : (job : Job) (holder : Holder) (j f : ℕ) (w : Spot) → is_own job holder j f w ≡ true → eqb f 0o23 ≡ false → (x : ℕ)
    → site_of w ≡ AtAddress x → in_area job x ≡ true
own-words job holder j f (OnUnit u) o n x e = absurd (let z : ◌≡◌ {A = ℕ} 0 1 = cc in omega arith)
own-words job holder j f (OnDrum y h) o n x e = let z : y ≡ x = cc in rw (← z) (rw n at o)

module _ (s : State) (I : Inv s) (j p f c : ℕ) (w : Spot) (r : refusal s (Submit j p f c w) ≡ Ok tt) where
  abbrev after : State
  after = submitted s j p f c w

  -- the packet that is submitted
  good-submitted : Good after j p
  good-submitted b x d =
      let k = submits s j p f c w r in
      let q = packet_in after.jobs j p in
      let z : q.at ≡ site_of w = submitted-read (λ (q : Packet). q.at) (site_of w) s I j p f c w k (λ t. refl) in
      let t : q.status ≡ cond (eqb f 0o07 || eqb f 0o23) (Ended 0o00) Listed =
      unfold accept status_after in status-after s I (Submit j p f c w) r j p ∙ rw (eqb-self j, eqb-self p) in
      let o : eqb f 0o23 ≡ false = listed-only (eqb f 0o07) (eqb f 0o23) (sym (ap is_busy t) ∙ b) in
      area_same (job_in after.jobs j) (job_in s.jobs j) x ((same-submit s j p f c w).shares j)
      ∙ own-words (job_in s.jobs j) (unit_at s.units c (site_of w)).holder j f w k.owned o x (sym z ∙ d)

accept-good : (s : State) → Inv s → AtItsArea s → (x : Call) → refusal s x ≡ Ok tt → AtItsArea (accept s x)
unfolding accept
accept-good s I K (Take j asg) r i n b x d =
    let inside : j < length s.jobs = rw I.places (assigns-to s j asg r).0 in
    by_bool (eqb i j)
    (λ e. never {b = false} (rw (packet-fresh s.jobs j asg i inside n, e) at b) refl)
    (λ e. good-calm s (assigned s j asg) i n
    (calm-same (its i) s (assigned s j asg) n (packet-fresh s.jobs j asg i inside n ∙ rw e))
    (ap share (get_d_set s.jobs j (fresh_job asg) i no_job inside) ∙ rw e) (K i n) b x d)
accept-good s I K (Do (Act'.Submit j p f c w)) r i n b x d =
    by_bool (eqb i j && eqb n p)
    (λ e. let u : i ≡ j = eqb-true i j (and_left (eqb i j) (eqb n p) e) in
    let v : n ≡ p = eqb-true n p (and_right (eqb i j) (eqb n p) e) in
    rw u (good-submitted s I j p f c.0 w r (rw (u, v) at b) x (rw (u, v) at d)))
    (λ e. let s₁ = submitted s j p f c.0 w in
    good-calm s s₁ i n (calm-submit (its i) s I j p f c.0 w (submits s j p f c.0 w r) n e)
    ((same-submit s j p f c.0 w).shares i) (K i n) b x d)
accept-good s I K (Do (Act'.Start c)) r i n b x d =
    let m = starts-on s c.0 r in
    let o = find-some (find (startable s c.0) s.queue) m.2 in
    let e = o.0 in
    let z = find-holds (EntryOk s) (startable s c.0) s.queue e I.queued o.1 in
    let s₁ = begun s c.0 e in
    let fits = start_fits s I c.0 m.0 e z.0 (startable-on s c.0 e z.1) in
    let g : Good s₁ i n =
    good-calm s s₁ i n
    (calm-status (its i) s (place_of e) (packet_of e) InProgress fits
    (listed-busy (packet_in s.jobs (place_of e) (packet_of e)).status z.0.listed) n)
    ((same-begun s c.0 e).shares i) (K i n) in
    let h : Good (started s c.0 (find (startable s c.0) s.queue)) i n = rw o.1 g in
    h b x d
accept-good s I K (Do (Act'.Complete c how)) r i n b x d =
    let m = completes-on s c.0 how r in
    let o = busy-of (motion_on s c.0) m.1 in
    let s₁ = finished s c.0 how o.0 o.1 in
    let s₂ = return_if_done o.0 s₁ in
    let g : Good s₂ i n =
    good-calm s s₂ i n (calm-finished (its i) s I c.0 m.0 how o.0 o.1 o.2 n)
    (return-share s₁ o.0 i ∙ (same-finished s c.0 how o.0 o.1).shares i) (K i n) in
    let h : Good (completed s c.0 how (motion_on s c.0)) i n = rw o.2 g in
    h b x d
accept-good s I K (Do (Act'.End j e)) r i n b x d =
    let a = running-alive (state_in s.jobs j) (ends_of s j e r) in
    let s₁ = sweep s j always cut in
    let s₂ = closed s j e in
    let s₃ = ended s j e in
    let h = its i in
    good-calm s s₃ i n
    (calm-trans h s s₁ s₃ n (calm-sweep h s j always cut (alive-in s.jobs j a) refl cut-idle n)
    (calm-trans h s₁ s₂ s₃ n (calm-same h s₁ s₂ n (packet-state (restatus_all s.jobs j always cut) j (closing e) i n)) (calm_return h s₂ j n)))
    (return-share s₂ j i ∙ (same-closed s j e a).shares i) (K i n) b x d
accept-good s I K (Do (Act'.Return j c u)) r i n b x d =
    let k = returns_of s j c.0 u.0 r in
    good-calm s (handed_back s j c.0 (unit_site u.0)) i n
    (calm-sweep (its i) s j (is_at c.0 (unit_site u.0)) cut (returns-inside s I j c.0 u.0 k) refl cut-idle n)
    ((same-swept s j (is_at c.0 (unit_site u.0)) cut).shares i) (K i n) b x d
accept-good s I K (Do (Act'.Mark c u m on)) r i n b x d = K i n b x d

-- no job is there, so no packet is busy
begins-good : (s : State) → Begins s → AtItsArea s
begins-good s b i n k x d =
    let a : is_empty (state_in s.jobs i) ≡ true = rw b.is (unfold fresh in ap is_empty (fresh-state 16 empty_place refl i)) in
    never {b = is_empty (state_in s.jobs i)} a ((invariants [] s (reached-first s b)).live i n k)

pub on-its-own-words : OnItsOwnWords
on-its-own-words = by-history AtItsArea begins-good (λ l s r K x g. accept-good s (reached-inv l s r) K x g)
