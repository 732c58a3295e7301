-- A closing job has a packet stopping, and what of it still moves is stopping: an end makes it so, nothing of a
-- closing job starts, and at its last completion it is no longer closing. Assumes nothing.
use Rattle.std.proofs.Common.{None, Ok, Some}
use Prim.Native.Nat.{ℕ, zero, suc, ◌<◌}
use mathlib.Core.Path.{◌≡◌, refl, sym, ap, ◌∙◌}
use mathlib.Core.Bool.{Bool, true, false, not, cond, ◌&&◌}
use mathlib.Core.List.{List, [], ◌∷◌}
use lib.ListN.{get_or}
use lib.Dec.{eqb}
use borrow.Author.Tests.{eqb-true, not-false}
use Rattle.numbers.proofs.Tests.{by_bool, never}
use Rattle.units.specs.declared.Unit.{Unit as UnitState}
use Rattle.channels.specs.declared.Channel.{Channel}
use Rattle.packets.proofs.Reaching.{by-history, of-fresh}
use Rattle.packets.specs.Codes.{after_complete, code_of, status_after}
use Rattle.packets.specs.Lone.{ends_with}
use Rattle.packets.proofs.SimSweep.{failed_ends}
use Rattle.packets.proofs.CodesProof.{closed-status, finished-status, status-after}
use Rattle.packets.specs.History.{Event, Reached, empty_place, fresh}
use Rattle.packets.proofs.Inv.{EntryOk, Inv}
use Rattle.packets.proofs.Laws.{eqb-self, find-holds}
use Rattle.numbers.specs.Elements.{any, find}
use Rattle.packets.specs.Rules.{
  Call,
  Do,
  Take,
  accept,
  closed,
  closing,
  completed,
  cut,
  failed,
  finished,
  free_if_returning,
  is_at,
  is_done,
  is_trouble,
  refusal,
  return_if_done,
  returned,
  startable,
  started,
}
use Rattle.packets.proofs.ByNumber.{Complete, End, Mark, Return, Start, Submit}
use Rattle.packets.specs.declared.Act.TheVariants as Act'
use Rattle.packets.specs.State.{State, any_moves, carrying, in_motion, is_closing, is_packet, is_running}
use Rattle.packets.specs.State.{is_unit, motion_on, moves, packet_in, place_of, state_in}
use Rattle.packets.proofs.States.{states-begun, states-closed, states-finished, states-handed, states-returned, states-submit}
use Rattle.packets.proofs.Steps.{busy-of, closing-not-running, ending-inv, find-some, finished-inv, fresh-state, reached-inv}
use Rattle.packets.proofs.Store.{state-fresh}
use Rattle.packets.proofs.Handing.{unit_site}
use Rattle.packets.proofs.Told.{assigns-to, completes-on, ends_of, returns_of, starts-on, submits}
use Rattle.packets.specs.declared.Carrier.{Carrier}
use Rattle.packets.specs.declared.How.{How}
use Rattle.packets.specs.declared.JobState.{JobState}
use Rattle.packets.specs.declared.JobState.TheVariants.{Empty, Running}
use Rattle.packets.specs.State.{Motion}
use Rattle.packets.specs.declared.Status.{Status}
use Rattle.packets.specs.declared.Status.TheVariants.{Blank, Ended, InProgress, Listed, Stopping}

-- ---- what is kept

abbrev status_in : State → ℕ → ℕ → Status
status_in s i n = (packet_in s.jobs i n).status

-- of the job in place i a packet is stopping, and whatever moves is
pub record Halting (s : State) (i : ℕ) : Type 0 where
  pub one : (n : ℕ) × (status_in s i n ≡ Stopping)
  pub all : (n : ℕ) → in_motion (status_in s i n) ≡ true → status_in s i n ≡ Stopping

abbrev pub Halts : State → Type 0
Halts s = (i : ℕ) → is_closing (state_in s.jobs i) ≡ true → Halting s i

-- a place of which a call changes neither state nor statuses
same-halts : (s s' : State) (i : ℕ) → ((n : ℕ) → status_in s' i n ≡ status_in s i n) → Halting s i → Halting s' i
same-halts s s' i e h =
    record {
      one = (h.one.0, e h.one.0 ∙ h.one.1);
      all = λ n m. e n ∙ h.all n (ap in_motion (sym (e n)) ∙ m);
    }

-- ---- who still moves

some-any : {A : Type 0} (f : A → Bool) (l : List A) (d : A) → any f l ≡ true → (k : ℕ) × (f (get_or l k d) ≡ true)
some-any f [] d e = never {b = false} e refl
some-any f (x ∷ l) d e =
    by_bool (f x)
    (λ t. (zero, t))
    (λ t. let r = some-any f l d (rw t at e) in (suc r.0, r.1))

moves-busy : (j : ℕ) (m : Motion) → moves j m ≡ true → (p : ℕ) × (m ≡ Some (j, p))
moves-busy j None e = never {b = false} e refl
moves-busy j (Some (k, p)) e = (p, rw (eqb-true k j e))

-- a job of which a packet moves, if what of it moves is stopping
still-halts : (s : State) → Inv s → (j : ℕ) → any_moves j s.moving ≡ true
    → ((n : ℕ) → in_motion (status_in s j n) ≡ true → status_in s j n ≡ Stopping) → Halting s j
still-halts s I j a f =
    let k = some-any (λ (m : Carrier). moves j m.motion) s.moving (carrying None) a in
    let b = moves-busy j (motion_on s k.0) k.1 in
    record { one = (b.0, f b.0 (I.motion k.0 j b.0 b.1).going); all = f }

-- a closing job that is not done
not_done : (c m : Bool) → c ≡ true → c && not m ≡ false → m ≡ true
not_done c m e d = not-false m (rw e at d)

-- ---- the two changes of status

pub cut-halts : (x : Status) → in_motion (cut x) ≡ true → cut x ≡ Stopping
cut-halts Blank e = never {b = false} e refl
cut-halts Listed e = never {b = false} e refl
cut-halts InProgress e = refl
cut-halts Stopping e = refl
cut-halts (Ended k) e = never {b = false} e refl

failed-halts : (x : Status) → in_motion (failed x) ≡ true → failed x ≡ x
failed-halts Blank e = refl
failed-halts Listed e = never {b = false} e refl
failed-halts InProgress e = refl
failed-halts Stopping e = refl
failed-halts (Ended k) e = refl

-- ---- every call

running-closing : (t : JobState) → is_running t ≡ true → is_closing t ≡ true → ⊥
running-closing t r c = never {b = (is_running t)} r (closing-not-running t c).0

-- a call that leaves the statuses of a place, and its state if it is not j
elsewhere : (s : State) → Inv s → Halts s → (x : Call) → refusal s x ≡ Ok tt → (i : ℕ) → state_in (accept s x).jobs i ≡ state_in s.jobs i
    → ((n : ℕ) → status_after s x i n ≡ status_in s i n) → is_closing (state_in (accept s x).jobs i) ≡ true → Halting (accept s x) i
elsewhere s I H x r i e f c = same-halts s (accept s x) i (λ n. status-after s I x r i n ∙ f n) (H i (sym (ap is_closing e) ∙ c))

-- a job that has ended, or of which a packet has: it is done and no longer closing, or what of it moves is stopping
returns : (s : State) → Inv s → (j : ℕ)
    → ((n : ℕ) → is_closing (state_in s.jobs j) ≡ true → in_motion (status_in s j n) ≡ true → status_in s j n ≡ Stopping)
    → is_closing (state_in (return_if_done j s).jobs j) ≡ true → Halting (return_if_done j s) j
returns s I j f c =
    by_bool (is_done s j)
    (λ d. let e : state_in (returned s j).jobs j ≡ Empty = states-returned s j d j ∙ rw (eqb-self j) in
    let c' : is_closing (state_in (returned s j).jobs j) ≡ true = rw d at c in
    never {b = false} (sym (ap is_closing e) ∙ c') refl)
    (λ d. let c' : is_closing (state_in s.jobs j) ≡ true = rw d at c in
    rw d (still-halts s I j (not_done (is_closing (state_in s.jobs j)) (any_moves j s.moving) c' d) (λ n. f n c')))

-- a return leaves the states of the other places
returns-other : (s : State) (j i : ℕ) → eqb i j ≡ false → state_in (return_if_done j s).jobs i ≡ state_in s.jobs i
returns-other s j i o = by_bool (is_done s j) (λ d. rw d (states-returned s j d i ∙ rw o)) (λ d. rw d)

accept-halts : (s : State) → Inv s → Halts s → (x : Call) → refusal s x ≡ Ok tt → Halts (accept s x)
unfolding accept status_after
accept-halts s I H (Take j asg) r i c =
    let e = state-fresh s.jobs j asg i (rw I.places (assigns-to s j asg r).0) in
    by_bool (eqb i j)
    (λ d. let b : is_closing (cond (eqb i j) Running (state_in s.jobs i)) ≡ true = rw e at c in never {b = false} (rw d at b) refl)
    (λ d. elsewhere s I H (Take j asg) r i (e ∙ rw d) (λ n. rw d) c)
accept-halts s I H (Do (Act'.Submit j p f g w)) r i c =
    let e = states-submit s j p f g.0 w i in
    by_bool (eqb i j)
    (λ d. absurd (running-closing (state_in s.jobs j) (submits s j p f g.0 w r).running (rw (eqb-true i j d) at (sym (ap is_closing e) ∙ c))))
    (λ d. elsewhere s I H (Submit j p f g.0 w) r i e (λ n. rw d) c)
accept-halts s I H (Do (Act'.Start g)) r i c =
    let k = starts-on s g.0 r in
    let o = find-some (find (startable s g.0) s.queue) k.2 in
    let q = (find-holds (EntryOk s) (startable s g.0) s.queue o.0 I.queued o.1).0 in
    let e : state_in (started s g.0 (find (startable s g.0) s.queue)).jobs i ≡ state_in s.jobs i =
    rw o.1 (states-begun s g.0 o.0 i) in
    by_bool (eqb i (place_of o.0))
    (λ d. absurd (running-closing (state_in s.jobs (place_of o.0)) q.running
    (rw (eqb-true i (place_of o.0) d) at (sym (ap is_closing e) ∙ c))))
    (λ d. elsewhere s I H (Start g.0) r i e (λ n. rw (o.1, d)) c)
accept-halts s I H (Do (Act'.Complete g how)) r i c =
    let k = completes-on s g.0 how r in
    let o = busy-of (motion_on s g.0) k.1 in
    let j = o.0 in
    let p = o.1 in
    let s₁ = finished s g.0 how j p in
    by_bool (eqb i j)
    (λ d.
    let same : i ≡ j = eqb-true i j d in
    let c' : is_closing (state_in (return_if_done j s₁).jobs j) ≡ true = rw (o.2, same) at c in
    rw (o.2, same)
    (same-halts (return_if_done j s₁) (free_if_returning (return_if_done j s₁) g.0 (packet_in s.jobs j p).at) j (λ n. refl)
    (returns s₁ (finished-inv s I g.0 k.0 j p o.2 how) j
    (λ n x. moved g.0 how j p k.0 o.2 n (sym (ap is_closing (states-finished s g.0 how j p j)) ∙ x)) c')))
    (λ d.
    let e : state_in (completed s g.0 how (motion_on s g.0)).jobs i ≡ state_in s.jobs i =
    rw o.2 (returns-other s₁ j i d ∙ states-finished s g.0 how j p i) in
    elsewhere s I H (Complete g.0 how) r i e (λ n. rw (o.2, d)) c)
  where
    -- what of the job still moves is as it was
    moved : (g : ℕ) (how : How) (j p : ℕ) → g < 16 → motion_on s g ≡ Some (j, p) → (n : ℕ) → is_closing (state_in s.jobs j) ≡ true
        → in_motion (status_in (finished s g how j p) j n) ≡ true → status_in (finished s g how j p) j n ≡ Stopping
    moved g how j p small is n x m =
        let a : status_in (finished s g how j p) j n ≡ after_complete s g how (Some (j, p)) j n = finished-status s I g small how j p is j n in
        a ∙ go (is_packet j p j n)
        (eqb j j && ((is_trouble s.codes how && is_unit (packet_in s.jobs j p).at)
        && is_at g (packet_in s.jobs j p).at (packet_in s.jobs j n)))
        (rw a at m)
      where
        go : (b d : Bool) → in_motion (cond b (Ended (code_of how)) (cond d (ends_with 0o01 (status_in s j n)) (status_in s j n))) ≡ true
            → cond b (Ended (code_of how)) (cond d (ends_with 0o01 (status_in s j n)) (status_in s j n)) ≡ Stopping
        go true d e = never {b = false} e refl
        go false true e =
            let f = failed_ends (status_in s j n) in
            let z = f ∙ failed-halts (status_in s j n) (sym (ap in_motion f) ∙ e) in
            z ∙ (H j x).all n (sym (ap in_motion z) ∙ e)
        go false false e = (H j x).all n e
accept-halts s I H (Do (Act'.End j b)) r i c =
    by_bool (eqb i j)
    (λ d. let same : i ≡ j = eqb-true i j d in
    let c' : is_closing (state_in (return_if_done j (closed s j b)).jobs j) ≡ true = rw same at c in
    rw same (returns (closed s j b) (ending-inv s I j b (ends_of s j b r)) j cut_all c'))
    (λ d. elsewhere s I H (End j b) r i (returns-other (closed s j b) j i d ∙ states-closed s j b (ends_of s j b r) i ∙ other d) (λ n. rw d) c)
  where
    other : eqb i j ≡ false → cond (eqb i j) (closing b) (state_in s.jobs i) ≡ state_in s.jobs i
    other d = rw d

    cut_all : (n : ℕ) → is_closing (state_in (closed s j b).jobs j) ≡ true → in_motion (status_in (closed s j b) j n) ≡ true
        → status_in (closed s j b) j n ≡ Stopping
    cut_all n x m =
        let a : status_in (closed s j b) j n ≡ cut (status_in s j n) = closed-status s j b (ends_of s j b r) j n ∙ rw (eqb-self j) in
        a ∙ cut-halts (status_in s j n) (sym (ap in_motion a) ∙ m)
accept-halts s I H (Do (Act'.Return j g u)) r i c =
    let e = states-handed s j g.0 (unit_site u.0) i in
    by_bool (eqb i j)
    (λ d. absurd (running-closing (state_in s.jobs j) (returns_of s j g.0 u.0 r).running
    (rw (eqb-true i j d) at (sym (ap is_closing e) ∙ c))))
    (λ d. elsewhere s I H (Return j g.0 u.0) r i e (λ n. rw d) c)
accept-halts s I H (Do (Act'.Mark g u m on)) r i c = elsewhere s I H (Mark g.0 u.0 m on) r i refl (λ n. refl) c

fresh-halts : (channels : List Channel) (codes : ℕ) (units : List (List UnitState)) → Halts (fresh channels codes units)
unfolding fresh
fresh-halts channels codes units i c = never {b = false} (sym (ap is_closing (fresh-state 16 empty_place refl i)) ∙ c) refl

pub reached-halts : (l : List Event) (s : State) → Reached l s → Halts s
reached-halts =
    by-history Halts (of-fresh Halts (λ channels codes units free. fresh-halts channels codes units))
    (λ l s r H x e. accept-halts s (reached-inv l s r) H x e)
