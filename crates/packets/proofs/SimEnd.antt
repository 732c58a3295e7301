-- A completion, a job's end, a taking and a mark: the holding and its lone unit stay alike. Assumes nothing.
use Rattle.std.proofs.Common.{None, Some}
use Prim.Native.Nat.{ℕ, ◌<◌}
use mathlib.Core.Path.{◌≡◌, refl, sym, ap, ◌∙◌, subst}
use mathlib.Core.Bool.{Bool, true, false, not, cond, ◌&&◌}
use mathlib.Core.Option.{Option, none, some}
use lib.ListN.{length}
use lib.Dec.{eqb, ltb}
use borrow.Author.Tests.{eqb-true, eqb-false, eq-eqb, le-leb, ltb-false, not-false, not-true}
use Rattle.units.specs.declared.Unit.{Unit as UnitState}
use Rattle.units.specs.declared.Mark.{Mark as UnitMark}
use Rattle.numbers.proofs.Tests.{by_bool, never}
use Rattle.units.specs.State.{unit_in, unit_set, marked_unit}
use Rattle.channels.specs.Channels.{sets_interlock}
use Rattle.packets.specs.Demand.{Holding, Holds, is_there, its_unit, there}
use Rattle.packets.proofs.Inv.{Inv, OwnedAt, running-alive}
use Rattle.packets.proofs.InvJobs.{held-once, held-taken, take-held}
use Rattle.packets.proofs.InvUnits.{mark-holder}
use Rattle.packets.proofs.InvStores.{idle-inv, sweep-inv}
use Rattle.packets.proofs.Laws.{and_left, and_right, eqb-self, neither}
use Rattle.packets.proofs.LoneLaws.{in-section}
use Rattle.packets.specs.Lone.{Lone, become, carries, completes_as, ends, fails, halts, is_in, locks, closes, may_complete, may_end}
use Rattle.packets.specs.Rules.{always, assigned, is_at, broken, closing, code_for, completed, cut}
use Rattle.packets.specs.Rules.{ended, failed, finished, is_trouble, marked, over, return_if_done, is_wrong}
use Rattle.packets.proofs.Sim.{Like, Sim, like-status, lock_there, moving_there, sim-store, sim-store-away, sim-sweep-away}
use Rattle.packets.proofs.SimRest.{sim-move, sim-move-away, sim-same, sim-units, sim-units-away, sim-same-but, stays-held, stays-locked}
use Rattle.packets.proofs.SimReturn.{sim-back}
use Rattle.packets.proofs.SimStart.{sim-return}
use Rattle.packets.proofs.SimSubmit.{holder-alive}
use Rattle.packets.proofs.SimSweep.{sim-fails, sim-halts}
use Rattle.packets.proofs.There.{is-there, lock-away, lock-here, there-channel, there-kind, there-unit, unit-held}
use Rattle.packets.specs.State.{State, close, held_by, is_empty, is_running, is_stopping, is_unit, motion_on, move}
use Rattle.packets.specs.State.{packet_in, same, set_lock, set_state, state_in, sweep, take_all, unit_at, wanted, with_status}
use Rattle.packets.proofs.Sites.{mark-lock, same-is}
use Rattle.packets.proofs.Steps.{ending-inv, finished-inv, return-inv, over-fits, over-inside, over-inv}
use Rattle.packets.proofs.Store.{alive-in, length-restatus, packet-fresh, packet-state, state-fresh, state-restatus, state-state, unit-keep}
use Rattle.packets.proofs.Told.{cut-going, failed-going}
use Rattle.packets.specs.declared.Assignment.{Assignment}
use Rattle.packets.specs.declared.How.{How}
use Rattle.packets.specs.declared.How.TheVariants.{Cut, Failed, Full}
use Rattle.packets.specs.declared.JobState.{JobState}
use Rattle.packets.specs.declared.Site.{Site}
use Rattle.packets.specs.declared.Status.{Status}
use Rattle.packets.specs.declared.Status.TheVariants.{Blank, Ended, InProgress, Listed, Stopping}

-- ---- the two tests of a completion say the same

cut-stopping : (x : Status) → is_stopping x ≡ true → may_end x Cut ≡ true
cut-stopping Blank e = never {b = false} e refl
cut-stopping Listed e = never {b = false} e refl
cut-stopping InProgress e = never {b = false} e refl
cut-stopping Stopping e = refl
cut-stopping (Ended k) e = never {b = false} e refl

may-end : (x : Status) (how : How) → is_wrong x how ≡ false → may_end x how ≡ true
may-end x Full e = refl
may-end x Cut e = cut-stopping x (not-false (is_stopping x) e)
may-end x (Failed k) e =
    let a = neither (eqb k 0o00) _ e in
    let b = neither (eqb k 0o01) _ a.1 in
    let c = neither (eqb k 0o16) _ b.1 in
    let d = neither (eqb k 0o17) (ltb 0o77 k) c.1 in
    rw (a.0, b.0, c.0, d.0) (le-leb k 0o77 (ltb-false 0o77 k d.1))

-- ---- a completion

module _ (h : Holding) (s : State) (I : Inv s) (H : Holds s h) (l : Lone) (S : Sim h s l) (c : ℕ) (small : c < 16)
    (j p : ℕ) (is : motion_on s c ≡ Some (j, p)) where
  its-channel : (packet_in s.jobs j p).channel.0 ≡ c
  its-channel = (I.motion c j p is).channel

  -- from the packet that has ended to all that returns then
  gives_back : (how : How) (l' : Lone) → Sim h (finished s c how j p) l' → Sim h (completed s c how (Some (j, p))) l'
  gives_back how l' S' =
      let I₁ = finished-inv s I c small j p is how in
      sim-back h (return_if_done j (finished s c how j p)) (return-inv (finished s c how j p) I₁ j) l'
      (sim-return h (finished s c how j p) I₁ l' S' j) c (packet_in s.jobs j p).at

  module _ (at_j : h.place ≡ j) (t : there h (packet_in s.jobs j p) ≡ true) where
    channel-at : h.channel ≡ c
    channel-at = sym (there-channel h (packet_in s.jobs j p).channel.0 (packet_in s.jobs j p).at t) ∙ its-channel

    moving-is : l.moving ≡ some p
    moving-is = S.moving ∙ ap (moving_there h s.jobs) now ∙ rw (at_j, eqb-self j, t)
      where
        now : motion_on s h.channel ≡ Some (j, p)
        now = rw channel-at is

    its-like : Like (l.packets p) (packet_in s.jobs j p)
    its-like = subst (λ (i : ℕ). Like (l.packets p) (packet_in s.jobs i p)) at_j (S.table p (rw at_j t))

    sim-over : (k : ℕ) → Sim h (over s c j p k) (ends l p k)
    sim-over k =
        sim-store h (move s c None) (idle-inv s I c small) (carries l none) (sim-move h s I l S c None none small channel-at refl) j p
        (with_status (packet_in s.jobs j p) (Ended k)) (over-fits s I c small j p is) (λ b. refl) at_j t (become (l.packets p) (Ended k))
        (like-status its-like (Ended k) (Ended k) refl (λ b. never {b = false} b refl))

    sim-broken : (k : ℕ) → h.drum ≡ false → Sim h (broken (over s c j p k) c (packet_in s.jobs j p).at j) (locks (fails (ends l p k)) true)
    sim-broken k d =
        let a = (packet_in s.jobs j p).at in
        let s₁ = over s c j p k in
        let I₁ : Inv s₁ = over-inv s I c small j p is k in
        let inside = over-inside s I c small j p is k in
        let u : a ≡ its_unit h = there-unit h (packet_in s.jobs j p).channel.0 a d t in
        let S₂ : Sim h (sweep s₁ j (is_at c a) failed) (fails (ends l p k)) =
        sim-fails h s₁ I₁ (ends l p k) (sim-over k) j inside at_j c a d (is-there h c a d (sym channel-at) u) in
        sim-units h (sweep s₁ j (is_at c a) failed) (sweep-inv s₁ I₁ j (is_at c a) failed inside refl failed-going) (fails (ends l p k)) S₂
        (set_lock s.units c a true) true (stays-locked h s.units c a true)
        (ap (λ (x : Site). lock_there h (set_lock s.units c x true)) u ∙ lock-here h s H c true d channel-at)

    sim-finished : (how : How) → Sim h (finished s c how j p) (completes_as s.codes h.drum l how (some p))
    sim-finished Full = sim-over 0o00
    sim-finished Cut = sim-over 0o17
    sim-finished (Failed k) =
        let a = (packet_in s.jobs j p).at in
        let e : is_in s.codes k && not h.drum ≡ sets_interlock s.codes k && is_unit a =
        rw (in-section s.codes k, there-kind h (packet_in s.jobs j p).channel.0 a t) in
        subst (λ (b : Bool). Sim h (finished s c (Failed k) j p) (cond b (locks (fails (ends l p k)) true) (ends l p k))) (sym e)
        (by_bool (sets_interlock s.codes k && is_unit a)
        (λ b. rw b (sim-broken k (not-true h.drum (and_right (is_in s.codes k) (not h.drum) (e ∙ b)))))
        (λ b. rw b (sim-over k)))

    -- the lone unit takes it: the packet moves there, and may end so
    pub takes-complete : (how : How) → is_wrong (packet_in s.jobs j p).status how ≡ false → may_complete l how l.moving ≡ true
    takes-complete how right =
        ap (may_complete l how) moving-is ∙ ap (λ (x : Status). may_end x how) its-like.status
        ∙ may-end (packet_in s.jobs j p).status how right

    pub sim-complete : (how : How) → Sim h (completed s c how (Some (j, p))) (completes_as s.codes h.drum l how l.moving)
    sim-complete how =
        subst (λ (x : Option ℕ). Sim h (completed s c how (Some (j, p))) (completes_as s.codes h.drum l how x)) (sym moving-is)
        (gives_back how (completes_as s.codes h.drum l how (some p)) (sim-finished how))

  module _ (away : eqb h.place j && there h (packet_in s.jobs j p) ≡ false) where
    none_here : (h.place ≡ j → there h (packet_in s.jobs j p) ≡ false)
    none_here e = rw (eq-eqb h.place j e) at away

    sim-over-away : (k : ℕ) → Sim h (over s c j p k) l
    sim-over-away k =
        sim-store-away h (move s c None) (idle-inv s I c small) l (sim-move-away h s I l S c None small (λ x. sym gone)) j p
        (with_status (packet_in s.jobs j p) (Ended k)) (over-fits s I c small j p is) (λ b. refl) away
      where
        gone : moving_there h s.jobs (motion_on s c) ≡ none
        gone =
            rw is
            (by_bool (eqb j h.place)
            (λ x. let y : h.place ≡ j = sym (eqb-true j h.place x) in rw (x, y, none_here y))
            (λ x. rw x))

    sim-broken-away : (k : ℕ) → is_unit (packet_in s.jobs j p).at ≡ true → Sim h (broken (over s c j p k) c (packet_in s.jobs j p).at j) l
    sim-broken-away k nd =
        let a = (packet_in s.jobs j p).at in
        let s₁ = over s c j p k in
        let I₁ : Inv s₁ = over-inv s I c small j p is k in
        let inside = over-inside s I c small j p is k in
        sim-units-away h (sweep s₁ j (is_at c a) failed) (sweep-inv s₁ I₁ j (is_at c a) failed inside refl failed-going) l
        (sim-sweep-away h s₁ I₁ l (sim-over-away k) j (is_at c a) failed inside refl miss)
        (set_lock s.units c a true) (stays-locked h s.units c a true)
        (lock-away h s.units c a true (held-taken (unit_at s.units c a).holder j theirs) other)
      where
        theirs : held_by (unit_at s.units c (packet_in s.jobs j p).at).holder j ≡ true
        theirs = let o : OwnedAt s j c (packet_in s.jobs j p).at = rw its-channel at (I.motion c j p is).owned in o.1 nd

        other : h.drum ≡ false → h.channel ≡ c → (packet_in s.jobs j p).at ≡ its_unit h → ⊥
        other o x y =
            let z : held_by (unit_in s.units c h.unit).holder j ≡ true =
            subst (λ (v : Site). held_by (unit_at s.units c v).holder j ≡ true) y theirs in
            never {b = there h (packet_in s.jobs j p)}
            (is-there h (packet_in s.jobs j p).channel.0 (packet_in s.jobs j p).at o (its-channel ∙ sym x) y)
            (none_here (held-once (unit_in s.units c h.unit).holder h.place j (rw x at (unit-held h s H o)) z))

        miss : (n : ℕ) → h.place ≡ j → there h (packet_in (over s c j p k).jobs h.place n) ≡ true
            → is_at c (packet_in s.jobs j p).at (packet_in (over s c j p k).jobs h.place n) ≡ false
        miss n e y =
            let q = packet_in (over s c j p k).jobs h.place n in
            let a = (packet_in s.jobs j p).at in
            by_bool (is_at c a q)
            (λ z.
            let y' : is_there h c a ≡ true =
            rw (
              eqb-true q.channel.0 c (and_left (eqb q.channel.0 c) (same q.at a) z),
              same-is q.at a (and_right (eqb q.channel.0 c) (same q.at a) z),
            ) at y in
            never {b = there h (packet_in s.jobs j p)} (rw its-channel y') (none_here e))
            (λ z. z)

    pub sim-complete-away : (how : How) → Sim h (completed s c how (Some (j, p))) l
    sim-complete-away how =
        gives_back how l
        (by_bool (is_trouble s.codes how && is_unit (packet_in s.jobs j p).at)
        (λ e. rw e (sim-broken-away (code_for how) (and_right (is_trouble s.codes how) _ e)))
        (λ e. rw e (sim-over-away (code_for how))))

-- ---- a job's end

module _ (h : Holding) (s : State) (I : Inv s) (l : Lone) (S : Sim h s l) (j : ℕ) (err : Bool) (r : is_running (state_in s.jobs j) ≡ true) where
  its-place : j < length s.jobs
  its-place = alive-in s.jobs j (running-alive (state_in s.jobs j) r)

  abbrev swept : State
  swept = sweep s j always cut

  swept-inv : Inv swept
  swept-inv = sweep-inv s I j always cut its-place refl cut-going

  -- the states of the places, once place j is closing
  states : (i : ℕ) → state_in (set_state swept.jobs j (closing err)) i ≡ cond (eqb i j) (closing err) (state_in s.jobs i)
  states i =
      state-state swept.jobs j (closing err) i (rw (length-restatus s.jobs j always cut) its-place)
      ∙ rw (state-restatus s.jobs j always cut i)

  -- the job's end is known here
  sim-closes : h.place ≡ j → (l' : Lone) → Sim h swept l' → Sim h (close swept j (closing err)) (closes l')
  sim-closes at_j l' S' =
      let e : state_in (set_state swept.jobs j (closing err)) h.place ≡ closing err = states h.place ∙ rw (at_j, eqb-self j) in
      sim-same-but h swept swept-inv l' S' s.units (set_state swept.jobs j (closing err)) (λ t. (t, refl)) refl
      (packet-state swept.jobs j (closing err) h.place) true
      (sym (ap (λ (t : JobState). not (is_running t)) e ∙ over-closing err))
    where
      over-closing : (b : Bool) → not (is_running (closing b)) ≡ true
      over-closing true = refl
      over-closing false = refl

  pub takes-end : h.place ≡ j → not l.job_over ≡ true
  takes-end at_j =
      let x : is_running (state_in s.jobs h.place) ≡ true = rw at_j r in
      ap not (S.over ∙ ap not x)

  pub sim-end : h.place ≡ j → Sim h (ended s j err) (closes (halts (λ x. true) l))
  sim-end at_j =
      sim-return h (close swept j (closing err)) (ending-inv s I j err r) (closes (halts (λ x. true) l))
      (sim-closes at_j (halts (λ x. true) l) (sim-halts h s I l S j its-place at_j always (λ x. true) (λ n y. refl)))
      j

  pub sim-end-away : eqb h.place j ≡ false → Sim h (ended s j err) l
  sim-end-away away =
      sim-return h (close swept j (closing err)) (ending-inv s I j err r) l
      (sim-same h swept swept-inv l
      (sim-sweep-away h s I l S j always cut its-place refl (λ n e y. absurd (eqb-false h.place j away e)))
      s.units (set_state swept.jobs j (closing err)) (λ t. (t, refl)) refl
      (packet-state swept.jobs j (closing err) h.place)
      (ap is_running (states h.place ∙ same ∙ sym (state-restatus s.jobs j always cut h.place))))
      j
    where
      same : cond (eqb h.place j) (closing err) (state_in s.jobs h.place) ≡ state_in s.jobs h.place
      same = rw away

-- ---- a new job, a mark

pub sim-assign-away : (h : Holding) (s : State) (I : Inv s) → Holds s h → (l : Lone) → Sim h s l → (j : ℕ) → j < 16
    → is_empty (state_in s.jobs j) ≡ true
    → (asg : Assignment) → Sim h (assigned s j asg) l
sim-assign-away h s I H l S j small empty asg =
    sim-same h s I l S (take_all s.units j (wanted asg)) (assigned s j asg).jobs
    (stays-held h (take_all s.units j (wanted asg)) s.units
    (λ d. rw (take-held s I j small empty asg h.channel h.unit h.place (unit-held h s H d))))
    (by_bool h.drum (λ d. rw d) (λ d. rw (d, take-held s I j small empty asg h.channel h.unit h.place (unit-held h s H d))))
    (λ n. rw (packet-fresh s.jobs j asg h.place (rw I.places small) n, other))
    (rw (state-fresh s.jobs j asg h.place (rw I.places small), other))
  where
    other : eqb h.place j ≡ false
    other =
        by_bool (eqb h.place j)
        (λ e. never {b = is_empty (state_in s.jobs j)} empty (rw (eqb-true h.place j e) at (holder-alive h s I H))) (λ e. e)

pub sim-mark : (h : Holding) (s : State) → Inv s → (l : Lone) → Sim h s l → (c u : ℕ) (m : UnitMark) (on : Bool) → Sim h (marked s c u m on) l
sim-mark h s I l S c u m on =
    sim-units-away h s I l S (unit_set s.units c u (marked_unit m on (unit_in s.units c u)))
    (stays-held h (unit_set s.units c u (marked_unit m on (unit_in s.units c u))) s.units
    (λ d. unit-keep (λ (v : UnitState). v.holder) s.units c u (marked_unit m on (unit_in s.units c u)) h.channel h.unit
    (mark-holder m on (unit_in s.units c u))))
    (by_bool h.drum (λ e. rw e)
    (λ e. rw (
      e,
      unit-keep (λ (v : UnitState). v.interlock) s.units c u (marked_unit m on (unit_in s.units c u)) h.channel h.unit
          (mark-lock m on (unit_in s.units c u)),
    )))
