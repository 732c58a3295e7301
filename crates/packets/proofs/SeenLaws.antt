-- Where the packets of a job were last submitted, read from calls and answers alone, is what the cell holds.
-- Assumes nothing.
use Rattle.std.proofs.Common.{Ok, Some}
use Prim.Native.Nat.{ℕ, ◌<◌}
use mathlib.Core.Path.{◌≡◌, refl, sym, ap, ◌∙◌}
use mathlib.Core.Bool.{Bool, true, false, not, ◌&&◌}
use mathlib.Core.List.{[]}
use lib.ListN.{length}
use lib.Dec.{eqb}
use borrow.Author.Tests.{eqb-true}
use Rattle.numbers.proofs.Tests.{by_bool, never}
use Rattle.numbers.specs.declared.Refusal.{Refusal}
use Rattle.packets.specs.Demand.{Holding, Holds, Seen, as_lone, is_there, noted, there}
use Rattle.packets.proofs.Inv.{EntryOk, Inv, listed-busy, motion-busy, running-alive}
use Rattle.packets.proofs.InvUnits.{lock-inv}
use Rattle.packets.proofs.InvStores.{sweep-inv}
use Rattle.packets.proofs.Laws.{and_left, and_right, find-holds}
use Rattle.numbers.specs.Elements.{find}
use Rattle.packets.specs.Rules.{Call, Do, Take, accept, aimed, always, answer, assigned, begun, broken, closing}
use Rattle.packets.specs.Rules.{code_for, cut, ended, failed, finished, handed_back, is_at, is_trouble, locked, over}
use Rattle.packets.specs.Rules.{packet, refusal, return_if_done, returned, site_of, startable, submitted, terminate, unlock}
use Rattle.packets.specs.declared.Act.TheVariants as Act'
use Rattle.packets.proofs.SimSubmit.{eqb-flip, holder-alive}
use Rattle.packets.proofs.SimSweep.{busy-before}
use Rattle.packets.specs.State.{State, any_moves, close, is_busy, is_closing, is_empty, is_unit, lock, motion_on, packet_in}
use Rattle.packets.specs.State.{packet_of, place_of, put, restatus, restatus_all, state_in, store, sweep, with_status}
use Rattle.packets.proofs.StepSubmit.{Ready, ready-fits, ready-inside, ready-sweep, stored_at}
use Rattle.packets.proofs.Steps.{busy-of, find-some, over-fits, over-inside, start_fits, startable-on}
use Rattle.packets.proofs.Store.{alive-in, packet-fresh, packet-put, packet-restatus, packet-state, size_in}
use Rattle.packets.proofs.Told.{Submits, assigns-to, completes-on, cut-going, cut-idle}
use Rattle.packets.proofs.Told.{ends_of, failed-going, failed-idle, returns_of, starts-on, submits}
use Rattle.packets.proofs.Handing.{returns-inside, unit_site}
use Rattle.packets.specs.declared.Answer.TheVariants.{Refused}
use Rattle.packets.specs.declared.How.{How}
use Rattle.packets.specs.declared.JobState.TheVariants.{Empty}
use Rattle.packets.specs.declared.Packet.{Packet}
use Rattle.packets.specs.declared.Spot.{Spot}
use Rattle.packets.specs.declared.Status.{Status}
use Rattle.packets.specs.declared.Status.TheVariants.{Blank, Ended, InProgress, Listed}

-- ---- where the job's packets were last submitted

-- from one state to the next each packet of the holding's job stays where it was submitted, and none becomes busy
abbrev pub Calm : Holding → State → State → ℕ → Type 0
Calm h s s' n =
    (there h (packet_in s'.jobs h.place n) ≡ there h (packet_in s.jobs h.place n))
    × (is_busy (packet_in s'.jobs h.place n).status ≡ true → is_busy (packet_in s.jobs h.place n).status ≡ true)
    × ((packet_in s'.jobs h.place n).at ≡ (packet_in s.jobs h.place n).at)

pub calm-refl : (h : Holding) (s : State) (n : ℕ) → Calm h s s n
calm-refl h s n = (refl, λ b. b, refl)

pub calm-trans : (h : Holding) (a b c : State) (n : ℕ) → Calm h a b n → Calm h b c n → Calm h a c n
calm-trans h a b c n p q = (q.0 ∙ p.0, λ x. p.1 (q.1 x), q.2 ∙ p.2)

pub calm-same : (h : Holding) (s s' : State) (n : ℕ) → packet_in s'.jobs h.place n ≡ packet_in s.jobs h.place n → Calm h s s' n
calm-same h s s' n e = (rw e, λ b. rw e at b, ap (λ (q : Packet). q.at) e)

-- a packet other than the one that is stored
pub calm-other : (h : Holding) (s : State) (j p : ℕ) (q : Packet) → p < size_in s.jobs j → (n : ℕ) → eqb h.place j && eqb n p ≡ false
    → Calm h s (store s j p q) n
calm-other h s j p q fits n e = calm-same h s (store s j p q) n (packet-put s.jobs j p q h.place n fits ∙ rw e)

-- a busy packet that gets another status
pub calm-status : (h : Holding) (s : State) (j p : ℕ) (t : Status) → p < size_in s.jobs j → is_busy (packet_in s.jobs j p).status ≡ true
    → (n : ℕ) → Calm h s (store s j p (with_status (packet_in s.jobs j p) t)) n
calm-status h s j p t fits b n =
    by_bool (eqb h.place j && eqb n p)
    (λ e.
    let x : h.place ≡ j = eqb-true h.place j (and_left (eqb h.place j) (eqb n p) e) in
    let y : n ≡ p = eqb-true n p (and_right (eqb h.place j) (eqb n p) e) in
    let z : packet_in (put s.jobs j p (with_status (packet_in s.jobs j p) t)) h.place n ≡ with_status (packet_in s.jobs j p) t =
    packet-put s.jobs j p _ h.place n fits ∙ rw e in
    (rw (z, x, y), λ w. rw (x, y) b, rw (z, x, y)))
    (λ e. calm-other h s j p (with_status (packet_in s.jobs j p) t) fits n e)

pub calm-sweep : (h : Holding) (s : State) (j : ℕ) (t : Packet → Bool) (f : Status → Status) → j < length s.jobs → f Blank ≡ Blank
    → ((x : Status) → is_busy x ≡ false → f x ≡ x) → (n : ℕ) → Calm h s (sweep s j t f) n
calm-sweep h s j t f inside fb keeps n =
    let q = packet_in s.jobs h.place n in
    let swept = packet-restatus s.jobs j t f h.place n inside fb in
    by_bool (eqb h.place j)
    (λ e. let z : packet_in (restatus_all s.jobs j t f) h.place n ≡ restatus t f q = swept ∙ rw e in
    let back : is_busy (restatus t f q).status ≡ true → is_busy q.status ≡ true =
    λ b. by_bool (t q) (λ d. busy-before f keeps q.status (rw d at b)) (λ d. rw d at b) in
    (rw z, λ b. back (rw z at b), rw z))
    (λ e. calm-same h s (sweep s j t f) n (swept ∙ rw e))

pub calm_return : (h : Holding) (s : State) (j n : ℕ) → Calm h s (return_if_done j s) n
calm_return h s j n =
    by_bool (is_closing (state_in s.jobs j) && not (any_moves j s.moving))
    (λ e. rw e (calm-same h s (returned s j) n (packet-state s.jobs j Empty h.place n)))
    (λ e. rw e (calm-refl h s n))

-- a submission, of another packet
pub calm-submit : (h : Holding) (s : State) → Inv s → (j p f c : ℕ) (w : Spot) → Submits s j p f c w → (n : ℕ)
    → eqb h.place j && eqb n p ≡ false → Calm h s (submitted s j p f c w) n
calm-submit h s I j p f c w k n o =
    let a = site_of w in
    let r : Ready s j p = record { small = k.small; running = k.running; idle = k.idle } in
    let inside = ready-inside s j p r in
    by_bool (eqb f 0o07)
    (λ e. rw e (by_bool (locked s c a)
    (λ d. rw d
    (let s₁ = sweep s j (is_at c a) failed in
    let I₁ : Inv s₁ = sweep-inv s I j (is_at c a) failed inside refl failed-going in
    let r₁ : Ready s₁ j p = ready-sweep s j p (is_at c a) failed refl failed-idle r in
    calm-trans h s s₁ (unlock s j p f c a) n (calm-sweep h s j (is_at c a) failed inside refl failed-idle n)
    (calm-other h (lock s₁ c a false) j p (packet (Ended 0o00) f c a) (ready-fits s₁ I₁ j p r₁) n o)))
    (λ d. rw d (calm-other h s j p (packet (Ended 0o00) f c a) (ready-fits s I j p r) n o))))
    (λ e. rw e (by_bool (eqb f 0o23)
    (λ d. rw d
    (let t = aimed c w in
    let s₁ = sweep s j t cut in
    let I₁ : Inv s₁ = sweep-inv s I j t cut inside refl cut-going in
    let r₁ : Ready s₁ j p = ready-sweep s j p t cut refl cut-idle r in
    calm-trans h s s₁ (terminate s j p f c w) n (calm-sweep h s j t cut inside refl cut-idle n)
    (calm-other h s₁ j p (packet (Ended 0o00) f c a) (ready-fits s₁ I₁ j p r₁) n o)))
    (λ d. rw d (calm-other h s j p (packet Listed f c a) (ready-fits s I j p r) n o))))

-- what is read of the packet that is submitted
pub submitted-read : {B : Type 0} (g : Packet → B) (v : B) (s : State) → Inv s → (j p f c : ℕ) (w : Spot) → Submits s j p f c w
    → ((t : Status) → g (packet t f c (site_of w)) ≡ v) → g (packet_in (submitted s j p f c w).jobs j p) ≡ v
submitted-read g v s I j p f c w k is =
    let a = site_of w in
    let r : Ready s j p = record { small = k.small; running = k.running; idle = k.idle } in
    let inside = ready-inside s j p r in
    by_bool (eqb f 0o07)
    (λ e. rw e (by_bool (locked s c a)
    (λ d. rw (
      d,
      stored_at (lock (sweep s j (is_at c a) failed) c a false)
          (lock-inv (sweep s j (is_at c a) failed) (sweep-inv s I j (is_at c a) failed inside refl failed-going) c a false) j p
          (packet (Ended 0o00) f c a)
          (let r₁ = ready-sweep s j p (is_at c a) failed refl failed-idle r in
          record { small = r₁.small; running = r₁.running; idle = r₁.idle }),
    ) (is (Ended 0o00)))
    (λ d. rw (d, stored_at s I j p (packet (Ended 0o00) f c a) r) (is (Ended 0o00)))))
    (λ e. rw e (by_bool (eqb f 0o23)
    (λ d. rw (
      d,
      stored_at (sweep s j (aimed c w) cut) (sweep-inv s I j (aimed c w) cut inside refl cut-going) j p (packet (Ended 0o00) f c a)
          (ready-sweep s j p (aimed c w) cut refl cut-idle r),
    ) (is (Ended 0o00)))
    (λ d. rw (d, stored_at s I j p (packet Listed f c a) r) (is Listed))))

-- what was seen of a packet agrees with the cell
abbrev pub SeenAt : Holding → State → Bool → ℕ → Type 0
SeenAt h s b n =
    (b ≡ true → there h (packet_in s.jobs h.place n) ≡ true)
    × (is_busy (packet_in s.jobs h.place n).status ≡ true → b ≡ there h (packet_in s.jobs h.place n))

abbrev pub SeenOk : Holding → State → Seen → Type 0
SeenOk h s t = (n : ℕ) → SeenAt h s (t n) n

pub seen-calm : (h : Holding) (s s' : State) (b : Bool) (n : ℕ) → Calm h s s' n → SeenAt h s b n → SeenAt h s' b n
seen-calm h s s' b n c k = (λ e. c.0 ∙ k.0 e, λ e. k.1 (c.1 e) ∙ sym c.0)

pub calm-finished : (h : Holding) (s : State) → Inv s → (c : ℕ) → c < 16 → (how : How) (j p : ℕ) → motion_on s c ≡ Some (j, p) → (n : ℕ)
    → Calm h s (return_if_done j (finished s c how j p)) n
calm-finished h s I c small how j p is n =
    let b = motion-busy (packet_in s.jobs j p).status (I.motion c j p is).going in
    let s₁ = over s c j p (code_for how) in
    let k : Calm h s s₁ n = calm-status h s j p (Ended (code_for how)) (over-fits s I c small j p is) b n in
    calm-trans h s (finished s c how j p) (return_if_done j (finished s c how j p)) n
    (by_bool (is_trouble s.codes how && is_unit (packet_in s.jobs j p).at)
    (λ e. rw e (calm-trans h s s₁ (broken s₁ c (packet_in s.jobs j p).at j) n k
    (calm-sweep h s₁ j (is_at c (packet_in s.jobs j p).at) failed (over-inside s I c small j p is (code_for how)) refl failed-idle n)))
    (λ e. rw e k))
    (calm_return h (finished s c how j p) j n)

pub accept-seen : (h : Holding) (s : State) → Inv s → Holds s h → (t : Seen) → SeenOk h s t → (x : Call) → refusal s x ≡ Ok tt
    → SeenOk h (accept s x) (noted h t x (answer s x))
unfolding accept noted answer
accept-seen h s I H t k (Take j asg) r =
    λ n. seen-calm h s (assigned s j asg) (t n) n
    (calm-same h s (assigned s j asg) n
    (packet-fresh s.jobs j asg h.place (rw I.places (assigns-to s j asg r).0) n ∙ rw other)) (k n)
  where
    other : eqb h.place j ≡ false
    other =
        by_bool (eqb h.place j)
        (λ e. never {b = is_empty (state_in s.jobs j)} (assigns-to s j asg r).1 (rw (eqb-true h.place j e) at (holder-alive h s I H)))
        (λ e. e)
accept-seen h s I H t k (Do (Act'.Submit j p f c w)) r =
    λ n. by_bool (eqb j h.place && eqb n p)
    (λ e.
    let x : j ≡ h.place = eqb-true j h.place (and_left (eqb j h.place) (eqb n p) e) in
    let y : n ≡ p = eqb-true n p (and_right (eqb j h.place) (eqb n p) e) in
    let z : there h (packet_in (submitted s j p f c.0 w).jobs h.place n) ≡ is_there h c.0 (site_of w) =
    rw (← x, y) (submitted-read (there h) (is_there h c.0 (site_of w)) s I j p f c.0 w (submits s j p f c.0 w r) (λ t. refl)) in
    rw e (λ d. z ∙ d, λ d. sym z))
    (λ e. rw e (seen-calm h s (submitted s j p f c.0 w) (t n) n
    (calm-submit h s I j p f c.0 w (submits s j p f c.0 w r) n (rw (eqb-flip h.place j) e)) (k n)))
accept-seen h s I H t k (Do (Act'.Start c)) r =
    let m = starts-on s c.0 r in
    let o = find-some (find (startable s c.0) s.queue) m.2 in
    let e = o.0 in
    let q = (find-holds (EntryOk s) (startable s c.0) s.queue e I.queued o.1).0 in
    rw o.1 (λ n. seen-calm h s (begun s c.0 e) (t n) n
    (calm-status h s (place_of e) (packet_of e) InProgress
    (start_fits s I c.0 m.0 e q (startable-on s c.0 e (find-holds (EntryOk s) (startable s c.0) s.queue e I.queued o.1).1))
    (listed-busy (packet_in s.jobs (place_of e) (packet_of e)).status q.listed) n)
    (k n))
accept-seen h s I H t k (Do (Act'.Complete c how)) r =
    let m = completes-on s c.0 how r in
    let o = busy-of (motion_on s c.0) m.1 in
    rw o.2 (λ n. seen-calm h s (return_if_done o.0 (finished s c.0 how o.0 o.1)) (t n) n
    (calm-finished h s I c.0 m.0 how o.0 o.1 o.2 n) (k n))
accept-seen h s I H t k (Do (Act'.End j e)) r =
    let inside = alive-in s.jobs j (running-alive (state_in s.jobs j) (ends_of s j e r)) in
    let s₁ = sweep s j always cut in
    let s₂ = close s₁ j (closing e) in
    λ n. seen-calm h s (ended s j e) (t n) n
    (calm-trans h s s₁ (ended s j e) n (calm-sweep h s j always cut inside refl cut-idle n)
    (calm-trans h s₁ s₂ (ended s j e) n (calm-same h s₁ s₂ n (packet-state (restatus_all s.jobs j always cut) j (closing e) h.place n))
    (calm_return h s₂ j n)))
    (k n)
accept-seen h s I H t k (Do (Act'.Return j c u)) r =
    λ n. seen-calm h s (handed_back s j c.0 (unit_site u.0)) (t n) n
    (calm-sweep h s j (is_at c.0 (unit_site u.0)) cut (returns-inside s I j c.0 u.0 (returns_of s j c.0 u.0 r)) refl cut-idle n)
    (k n)
accept-seen h s I H t k (Do (Act'.Mark c u m on)) r = k

-- a refused call is nothing to the lone unit, and says nothing of where a packet is
pub lone-refused : (h : Holding) (t : Seen) (x : Call) (n : Refusal) → as_lone h t x (Refused n) ≡ []
unfolding as_lone
lone-refused h t (Take j asg) n = refl
lone-refused h t (Do (Act'.Submit j p f c w)) n = refl
lone-refused h t (Do (Act'.Start c)) n = refl
lone-refused h t (Do (Act'.Complete c how)) n = refl
lone-refused h t (Do (Act'.End j e)) n = refl
lone-refused h t (Do (Act'.Return j c u)) n = refl
lone-refused h t (Do (Act'.Mark c u m on)) n = refl

pub noted-refused : (h : Holding) (t : Seen) (x : Call) (n : Refusal) → noted h t x (Refused n) ≡ t
unfolding noted
noted-refused h t (Take j asg) n = refl
noted-refused h t (Do (Act'.Submit j p f c w)) n = refl
noted-refused h t (Do (Act'.Start c)) n = refl
noted-refused h t (Do (Act'.Complete c how)) n = refl
noted-refused h t (Do (Act'.End j e)) n = refl
noted-refused h t (Do (Act'.Return j c u)) n = refl
noted-refused h t (Do (Act'.Mark c u m on)) n = refl
