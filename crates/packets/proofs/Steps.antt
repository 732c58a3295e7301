-- Every accepted call keeps the invariant, and the fresh cell has it. Assumes nothing.
use Rattle.std.proofs.Common.{Err, None, Ok, Some}
use Prim.Native.Nat.{ℕ, ◌<◌}
use mathlib.Core.Path.{◌≡◌, refl, sym, ap, ◌∙◌}
use mathlib.Core.Bool.{Bool, true, false, not, cond, ◌&&◌}
use mathlib.Core.List.{List}
use mathlib.Core.Option.{Option, none, some}
use lib.ListN.{length, replicate}
use lib.Dec.{eqb}
use borrow.Author.Tests.{eqb-true, eqb-false, not-true}
use Rattle.numbers.proofs.Stores.{get_d-replicate-same}
use Rattle.units.specs.declared.Unit.{Unit as UnitState}
use Rattle.numbers.proofs.Tests.{by_bool, never}
use Rattle.units.specs.State.{unit_in}
use Rattle.units.specs.declared.Holder.{Holder}
use Rattle.packets.specs.History.{Event, Leads, NoneHeld, Reached, empty_place, fresh}
use Rattle.packets.proofs.Reaching.{by-calls, by-history, of-fresh}
use Rattle.packets.proofs.Inv.{EntryOk, Inv, listed-busy, motion-busy, running-alive}
use Rattle.packets.specs.State.{in_motion, State, any_moves, close, held_by, is_closing, is_empty, is_idle, is_listed}
use Rattle.packets.specs.State.{is_running, is_unit, motion_on, move, moves, no_job, packet_in, packet_of}
use Rattle.packets.specs.State.{place_of, put, restatus_all, state_in, store, sweep, with_status}
use Rattle.packets.proofs.InvJobs.{NotOf, assigned-inv, close-inv, returned-inv}
use Rattle.packets.proofs.InvStores.{busy-inv, idle-inv, motion-move, store-inv, sweep-inv}
use Rattle.packets.proofs.InvUnits.{lock-inv, marked-inv}
use Rattle.numbers.specs.Elements.{All, find}
use Rattle.packets.proofs.Laws.{idle-moves, all-imp, and_left, and_right, any_none, eqb-self, find-holds, get_d-replicate-const}
use Rattle.packets.specs.Rules.{Call, Do, Take, accept, always, begun, closing, code_for, cut, decided, failed, finished, is_at, is_none}
use Rattle.packets.specs.Rules.{is_trouble, over, refusal, return_if_done, startable, step}
use Rattle.packets.specs.declared.Act.TheVariants as Act'
use Rattle.packets.proofs.Store.{alive-in, busy-in, packet-put, packet-restatus, size_in, state-put, state-restatus}
use Rattle.packets.proofs.Told.{assigns-to, completes-on, cut-going, cut-unlisted, ends_of, failed-going, returns_of, starts-on, submits}
use Rattle.packets.proofs.Handing.{back-inv, completed-idle, handed-inv}
use Rattle.packets.specs.declared.Carrier.{Carrier}
use Rattle.channels.specs.declared.Channel.{Channel}
use Rattle.packets.specs.declared.How.{How}
use Rattle.packets.specs.declared.Job.{Job}
use Rattle.packets.specs.declared.JobState.{JobState}
use Rattle.packets.specs.declared.JobState.TheVariants.{ClosingError, ClosingNormal, Empty, Running}
use Rattle.packets.specs.State.{Motion}
use Rattle.packets.specs.declared.Status.TheVariants.{Ended, InProgress}
use Rattle.packets.specs.State.{Verdict}
use Rattle.packets.proofs.StepSubmit.{submit-inv}

-- ---- a return

pub listed-not-closing : (s : State) → Inv s → (j : ℕ) → is_running (state_in s.jobs j) ≡ false → All (NotOf j) s.queue
listed-not-closing s I j n =
    all-imp (EntryOk s) (NotOf j)
    (λ e k. by_bool (eqb (place_of e) j) (λ t. never {b = is_running (state_in s.jobs j)} (rw (eqb-true (place_of e) j t) at k.running) n) (λ t. t))
    s.queue I.queued

pub closing-not-running : (t : JobState) → is_closing t ≡ true → (is_running t ≡ false) × (is_empty t ≡ false)
closing-not-running Empty e = never {b = false} e refl
closing-not-running Running e = never {b = false} e refl
closing-not-running ClosingNormal e = (refl, refl)
closing-not-running ClosingError e = (refl, refl)

pub none-moving : (s : State) (j : ℕ) → any_moves j s.moving ≡ false → (c p : ℕ) → motion_on s c ≡ Some (j, p) → ⊥
none-moving s j n c p e =
    never {b = moves j (motion_on s c)} (rw e (eqb-self j))
    (any_none (λ (m : Carrier). moves j m.motion) s.moving (record { motion = None }) n refl c)

pub return-inv : (s : State) → Inv s → (j : ℕ) → Inv (return_if_done j s)
return-inv s I j =
    by_bool (is_closing (state_in s.jobs j) && not (any_moves j s.moving))
    (λ e. rw e
    (let k = closing-not-running (state_in s.jobs j) (and_left (is_closing (state_in s.jobs j)) _ e) in
    returned-inv s I j (alive-in s.jobs j k.1) (listed-not-closing s I j k.0)
    (none-moving s j (not-true _ (and_right (is_closing (state_in s.jobs j)) _ e)))))
    (λ e. rw e I)

-- ---- a start

pub find-some : (o : Option ℕ) → is_none o ≡ false → (a : ℕ) × (o ≡ some a)
find-some none e = never {b = true} refl e
find-some (some a) e = (a, refl)

module _ (s : State) (I : Inv s) (c : ℕ) (small : c < 16) (e : ℕ) (k : EntryOk s e)
    (on : (packet_in s.jobs (place_of e) (packet_of e)).channel.0 ≡ c) where
  pub start_fits : packet_of e < size_in s.jobs (place_of e)
  start_fits = busy-in s.jobs (place_of e) (packet_of e) (listed-busy (packet_in s.jobs (place_of e) (packet_of e)).status k.listed)

  pub start-at : packet_in (put s.jobs (place_of e) (packet_of e) (with_status (packet_in s.jobs (place_of e) (packet_of e)) InProgress))
      (place_of e) (packet_of e)
      ≡ with_status (packet_in s.jobs (place_of e) (packet_of e)) InProgress
  start-at =
      rw (
        packet-put s.jobs (place_of e) (packet_of e) (with_status (packet_in s.jobs (place_of e) (packet_of e)) InProgress) (place_of e)
            (packet_of e) start_fits,
        eqb-self (place_of e),
        eqb-self (packet_of e),
      )

  abbrev pub started_state : State
  started_state = store s (place_of e) (packet_of e) (with_status (packet_in s.jobs (place_of e) (packet_of e)) InProgress)

  pub start-store : Inv started_state
  start-store =
      store-inv s I (place_of e) (packet_of e) (with_status (packet_in s.jobs (place_of e) (packet_of e)) InProgress) start_fits
      (λ b. (refl, refl)) (λ d m. refl)

  pub begun-inv : Inv (begun s c e)
  begun-inv =
      busy-inv started_state start-store c (place_of e) (packet_of e) small
      (record {
        going = rw start-at;
        channel = rw start-at on;
        alive = rw
            (state-put s.jobs (place_of e) (packet_of e) (with_status (packet_in s.jobs (place_of e) (packet_of e)) InProgress) (place_of e))
            (running-alive (state_in s.jobs (place_of e)) k.running);
        owned = rw start-at k.owned;
      })

-- ---- a completion

pub busy-of : (m : Motion) → is_idle m ≡ false → (j p : ℕ) × (m ≡ Some (j, p))
busy-of None e = never {b = true} refl e
busy-of (Some (j, p)) e = (j, p, refl)

module _ (s : State) (I : Inv s) (c : ℕ) (small : c < 16) (j p : ℕ) (is : motion_on s c ≡ Some (j, p)) where
  pub over-fits : p < size_in s.jobs j
  over-fits = busy-in s.jobs j p (motion-busy (packet_in s.jobs j p).status (I.motion c j p is).going)

  pub over-inv : (k : ℕ) → Inv (over s c j p k)
  over-inv k =
      store-inv (move s c None) (idle-inv s I c small) j p (with_status (packet_in s.jobs j p) (Ended k)) over-fits (λ b. (refl, refl)) not-elsewhere
    where
      not-elsewhere : (d : ℕ) → motion_on (move s c None) d ≡ Some (j, p) → in_motion (Ended k) ≡ true
      not-elsewhere d m =
          let e : cond (eqb d c) None (motion_on s d) ≡ Some (j, p) = sym (motion-move s c None d (rw I.channels small)) ∙ m in
          by_bool (eqb d c)
          (λ t. absurd (idle-moves j p (rw t at e)))
          (λ t. let m' : motion_on s d ≡ Some (j, p) = rw t at e in
          absurd (eqb-false d c t (sym (I.motion d j p m').channel ∙ (I.motion c j p is).channel)))

  pub over-inside : (k : ℕ) → j < length (over s c j p k).jobs
  over-inside k =
      alive-in (over s c j p k).jobs j
      (rw (state-put s.jobs j p (with_status (packet_in s.jobs j p) (Ended k)) j) (I.motion c j p is).alive)

  pub finished-inv : (how : How) → Inv (finished s c how j p)
  finished-inv how =
      by_bool (is_trouble s.codes how && is_unit (packet_in s.jobs j p).at)
      (λ e. rw e
      (lock-inv (sweep (over s c j p (code_for how)) j (is_at c (packet_in s.jobs j p).at) failed)
      (sweep-inv (over s c j p (code_for how)) (over-inv (code_for how)) j (is_at c (packet_in s.jobs j p).at) failed
      (over-inside (code_for how)) refl failed-going)
      c (packet_in s.jobs j p).at true))
      (λ e. rw e (over-inv (code_for how)))

-- ---- a job's end

pub closing-alive : (e : Bool) → is_empty (closing e) ≡ false
closing-alive true = refl
closing-alive false = refl

pub none-listed : (s : State) → Inv s → (j : ℕ) → j < length s.jobs → All (NotOf j) (sweep s j always cut).queue
none-listed s I j h =
    all-imp (EntryOk (sweep s j always cut)) (NotOf j)
    (λ e k. by_bool (eqb (place_of e) j)
    (λ t. never {b = is_listed (packet_in (restatus_all s.jobs j always cut) (place_of e) (packet_of e)).status} k.listed
    (rw (packet-restatus s.jobs j always cut (place_of e) (packet_of e) h refl, t)
    (cut-unlisted (packet_in s.jobs (place_of e) (packet_of e)).status)))
    (λ t. t))
    (sweep s j always cut).queue (sweep-inv s I j always cut h refl cut-going).queued

pub ending-inv : (s : State) → Inv s → (j : ℕ) (e : Bool) → is_running (state_in s.jobs j) ≡ true → Inv (close (sweep s j always cut) j (closing e))
ending-inv s I j e run' =
    let a : is_empty (state_in s.jobs j) ≡ false = running-alive (state_in s.jobs j) run' in
    let h : j < length s.jobs = alive-in s.jobs j a in
    let a₁ : is_empty (state_in (restatus_all s.jobs j always cut) j) ≡ false = rw (state-restatus s.jobs j always cut j) a in
    close-inv (sweep s j always cut) (sweep-inv s I j always cut h refl cut-going) j (alive-in (restatus_all s.jobs j always cut) j a₁)
    (none-listed s I j h) a₁ (closing e) (closing-alive e)

-- ---- every call

pub startable-on : (s : State) (c : ℕ) (e : ℕ) → startable s c e ≡ true → (packet_in s.jobs (place_of e) (packet_of e)).channel.0 ≡ c
startable-on s c e t = eqb-true _ c (and_left (eqb (packet_in s.jobs (place_of e) (packet_of e)).channel.0 c) _ t)

pub accept-inv : (s : State) → Inv s → (x : Call) → refusal s x ≡ Ok tt → Inv (accept s x)
unfolding accept
accept-inv s I (Take j asg) r = assigned-inv s I j (assigns-to s j asg r).0 (assigns-to s j asg r).1 asg
accept-inv s I (Do (Act'.Submit j p f c w)) r = submit-inv s I j p f c.0 w (submits s j p f c.0 w r)
accept-inv s I (Do (Act'.Start c)) r =
    let k = starts-on s c.0 r in
    let o = find-some (find (startable s c.0) s.queue) k.2 in
    let z = find-holds (EntryOk s) (startable s c.0) s.queue o.0 I.queued o.1 in
    rw o.1 (begun-inv s I c.0 k.0 o.0 z.0 (startable-on s c.0 o.0 z.1))
accept-inv s I (Do (Act'.Complete c how)) r =
    let k = completes-on s c.0 how r in
    let o = busy-of (motion_on s c.0) k.1 in
    rw o.2
    (back-inv (return_if_done o.0 (finished s c.0 how o.0 o.1))
    (return-inv (finished s c.0 how o.0 o.1) (finished-inv s I c.0 k.0 o.0 o.1 o.2 how) o.0)
    c.0 (packet_in s.jobs o.0 o.1).at (completed-idle s I c.0 k.0 how o.0 o.1))
accept-inv s I (Do (Act'.End j e)) r = return-inv (close (sweep s j always cut) j (closing e)) (ending-inv s I j e (ends_of s j e r)) j
accept-inv s I (Do (Act'.Return j c u)) r = handed-inv s I j c.0 u.0 (returns_of s j c.0 u.0 r)
accept-inv s I (Do (Act'.Mark c u m on)) e = marked-inv s I c.0 u.0 m on

pub decided-inv : (s : State) → Inv s → (x : Call) (n : Verdict) → refusal s x ≡ n → Inv (decided s x n).state
decided-inv s I x (Ok u) e = accept-inv s I x e
decided-inv s I x (Err n) e = I

pub step-inv : (s : State) → Inv s → (x : Call) → Inv (step s x).state
unfolding step
step-inv s I x = decided-inv s I x (refusal s x) refl

-- calls keep it, one after the other
pub leads-inv : (s : State) → Inv s → (l : List Event) (t : State) → Leads s l t → Inv t
leads-inv s I = by-calls s (λ l t. Inv t) I (λ l t d J x. step-inv t J x)

-- ---- the fresh cell

pub fresh-state : (n : ℕ) (k : Job) → k.state ≡ Empty → (j : ℕ) → state_in (replicate n k) j ≡ Empty
unfolding state_in
fresh-state n k e j = get_d-replicate-const (λ (x : Job). x.state) k no_job e n j

pub fresh-inv : (channels : List Channel) (codes : ℕ) (units : List (List UnitState)) → NoneHeld units → Inv (fresh channels codes units)
unfolding fresh
fresh-inv channels codes units free =
    record {
      sizes = λ j a. never {b = is_empty (state_in (fresh channels codes units).jobs j)} (ap is_empty (fresh-state 16 empty_place refl j)) a;
      places = refl;
      channels = refl;
      queued = tt;
      single = tt;
      motion = λ c j p e. absurd (idle-moves j p
          (sym (ap (λ (m : Carrier). m.motion) (get_d-replicate-same 16 c (record { motion = None }))) ∙ e));
      holders = λ c u j e. never {b = held_by (unit_in units c u).holder j} e (ap (λ (h : Holder). held_by h j) (free c u));
    }

-- every reached state has it
pub reached-inv : (l : List Event) (s : State) → Reached l s → Inv s
reached-inv = by-history Inv (of-fresh Inv fresh-inv) (λ l s r I x e. accept-inv s I x e)
