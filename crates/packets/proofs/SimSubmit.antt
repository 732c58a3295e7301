-- A submission: the holding and its lone unit stay alike, whether it acts there or elsewhere. Assumes nothing.
use Prim.Native.Nat.{ℕ}
use mathlib.Core.Path.{◌≡◌, refl, sym, ap, ◌∙◌, subst}
use mathlib.Core.Bool.{Bool, true, false, not, cond, ◌&&◌}
use lib.Dec.{ltb, eqb}
use borrow.Author.Tests.{eqb-true, eq-eqb, not-true}
use Rattle.numbers.proofs.Tests.{by_bool, never}
use Rattle.units.specs.State.{unit_in}
use Rattle.packets.specs.Demand.{Holding, Holds, is_there, its_unit, target_of, there, word_at}
use Rattle.packets.proofs.Inv.{Inv}
use Rattle.packets.proofs.InvJobs.{held-once, held-taken}
use Rattle.packets.proofs.InvUnits.{lock-inv}
use Rattle.packets.proofs.InvStores.{entry-packet, entry_place, sweep-inv}
use Rattle.packets.proofs.Laws.{and_both, and_left, and_right, bool_iff, eqb-self}
use Rattle.packets.specs.Lone.{Lone, fails, halts, hears, lists, locks, meant, request, stores, unlocks, in_use}
use Rattle.packets.specs.Rules.{aimed, cut, enlist, failed, is_at, locked, packet, pass, site_of, submitted, terminate, unlock}
use Rattle.packets.proofs.Sim.{Sim, here-busy, lock_there, on, sim-store, sim-store-away, sim-sweep-away}
use Rattle.packets.proofs.SimRest.{sim-enqueue, sim-enqueue-away, sim-units, sim-units-away, stays-locked}
use Rattle.packets.proofs.SimSweep.{sim-fails, sim-halts}
use Rattle.packets.specs.State.{State, entry_of, held_by, is_busy, is_empty, is_running, job_in, lock}
use Rattle.packets.specs.State.{packet_in, put, same, set_lock, state_in, store, sweep, unit_at}
use Rattle.packets.proofs.There.{covers-meant, covers-there, goes_to_lem, is-there, its_own, lock-away}
use Rattle.packets.proofs.There.{lock-here, lock-is, return-is, there-channel, there-kind, there-unit, unit-held}
use Rattle.packets.proofs.StepSubmit.{Ready, listed-new, ready-fits, ready-inside, ready-store, ready-sweep, stored_at}
use Rattle.packets.proofs.Sites.{locked-unit, same-is}
use Rattle.packets.proofs.Told.{Submits, cut-going, cut-idle, failed-going, failed-idle, owns-unit}
use Rattle.packets.specs.declared.Site.{Site}
use Rattle.packets.specs.declared.Spot.{Spot}
use Rattle.packets.specs.declared.Status.{Status}
use Rattle.packets.specs.declared.Status.TheVariants.{Ended, Listed}

pub eqb-flip : (a b : ℕ) → eqb a b ≡ eqb b a
eqb-flip a b =
    bool_iff (eqb a b) (eqb b a) (λ e. eq-eqb b a (sym (eqb-true a b e))) (λ e. eq-eqb a b (sym (eqb-true b a e)))

-- a job that holds something is there
pub holder-alive : (h : Holding) (s : State) → Inv s → Holds s h → is_empty (state_in s.jobs h.place) ≡ false
holder-alive h s I H = go h.drum H.held
  where
    go : (d : Bool) → cond d (not (is_empty (state_in s.jobs h.place)) && ltb 0 (job_in s.jobs h.place).words)
        (held_by (unit_in s.units h.channel h.unit).holder h.place)
        ≡ true
        → is_empty (state_in s.jobs h.place) ≡ false
    go true e = not-true _ (and_left (not (is_empty (state_in s.jobs h.place))) _ e)
    go false e = I.holders h.channel h.unit h.place e

-- ---- a submission there

module _ (h : Holding) (s : State) (I : Inv s) (H : Holds s h) (l : Lone) (S : Sim h s l) (j p f c : ℕ) (w : Spot) (k : Submits s j p f c w) where
  abbrev a : Site
  a = site_of w

  ready : Ready s j p
  ready = record { small = k.small; running = k.running; idle = k.idle }

  -- what is listed, or stored, where the submission says
  store-here : (s' : State) → Inv s' → (l' : Lone) → Sim h s' l' → Ready s' j p → h.place ≡ j → is_there h c a ≡ true → (t : Status)
      → Sim h (store s' j p (packet t f c a)) (stores l' p (request t f (word_at a)))
  store-here s' I' l' S' r at_j y t =
      sim-store h s' I' l' S' j p (packet t f c a) (ready-fits s' I' j p r)
      (λ b. never {b = is_busy (packet_in s'.jobs j p).status} b r.idle) at_j y (request t f (word_at a))
      (record { status = refl; function = refl; word = λ b. refl })

  store-gone : (s' : State) → Inv s' → Sim h s' l → Ready s' j p → eqb h.place j && is_there h c a ≡ false → (t : Status)
      → Sim h (store s' j p (packet t f c a)) l
  store-gone s' I' S' r away t =
      sim-store-away h s' I' l S' j p (packet t f c a) (ready-fits s' I' j p r)
      (λ y. never {b = is_busy (packet_in s'.jobs j p).status} y r.idle) away

  module _ (at_j : h.place ≡ j) (t : is_there h c a ≡ true) where
    locked-is : locked s c a ≡ l.interlock
    locked-is = lock-is h s.units c a t ∙ sym S.lock

    drum-off : locked s c a ≡ true → h.drum ≡ false
    drum-off d = not-true h.drum (sym (there-kind h c a t) ∙ locked-unit s.units c a d)

    sim-unlock : locked s c a ≡ true → Sim h (unlock s j p f c a) (stores (locks (fails l) false) p (request (Ended 0o00) f (word_at a)))
    sim-unlock d =
        let inside = ready-inside s j p ready in
        let s₁ = sweep s j (is_at c a) failed in
        let I₁ : Inv s₁ = sweep-inv s I j (is_at c a) failed inside refl failed-going in
        let r₁ : Ready s₁ j p = ready-sweep s j p (is_at c a) failed refl failed-idle ready in
        let S₁ : Sim h s₁ (fails l) = sim-fails h s I l S j inside at_j c a (drum-off d) t in
        store-here (lock s₁ c a false) (lock-inv s₁ I₁ c a false) (locks (fails l) false)
        (sim-units h s₁ I₁ (fails l) S₁ (set_lock s.units c a false) false (stays-locked h s.units c a false)
        (ap (λ (x : Site). lock_there h (set_lock s.units c x false)) (there-unit h c a (drum-off d) t)
        ∙ lock-here h s H c false (drum-off d) (sym (there-channel h c a t))))
        (record { small = r₁.small; running = r₁.running; idle = r₁.idle }) at_j t (Ended 0o00)

    -- what a 23 there aims at
    aimed-is : (n : ℕ) → there h (packet_in s.jobs h.place n) ≡ true
        → meant (target_of w) (word_at (packet_in s.jobs h.place n).at) ≡ aimed c w (packet_in s.jobs h.place n)
    aimed-is n y =
        let q = packet_in s.jobs h.place n in
        rw (eq-eqb q.channel.0 c (there-channel h q.channel.0 q.at y ∙ sym (there-channel h c a t)))
        (sym (covers-meant h c w q.channel.0 q.at t y))

    sim-terminate : Sim h (terminate s j p f c w) (stores (halts (meant (target_of w)) l) p (request (Ended 0o00) f (word_at a)))
    sim-terminate =
        let inside = ready-inside s j p ready in
        let test = aimed c w in
        store-here (sweep s j test cut) (sweep-inv s I j test cut inside refl cut-going) (halts (meant (target_of w)) l)
        (sim-halts h s I l S j inside at_j test (meant (target_of w)) aimed-is)
        (ready-sweep s j p test cut refl cut-idle ready) at_j t (Ended 0o00)

    sim-enlist : Sim h (enlist s j p f c a) (lists l p f (word_at a))
    sim-enlist =
        sim-enqueue h (store s j p (packet Listed f c a)) (ready-store s I j p (packet Listed f c a) ready)
        (stores l p (request Listed f (word_at a)))
        (store-here s I l S ready at_j t Listed) j p (listed-new s I j p f c w k)
        (rw (entry_place j p k.small, entry-packet j p k.small, at_j, eqb-self j, stored_at s I j p (packet Listed f c a) ready) t)

    sim-seven : (x : Bool) → locked s c a ≡ x → Sim h (cond x (unlock s j p f c a) (pass s j p f c a)) (unlocks l p f (word_at a) x)
    sim-seven true d = sim-unlock d
    sim-seven false d = store-here s I l S ready at_j t (Ended 0o00)

    -- the lone unit takes it: its job runs, it is not being returned, and the packet is not in use
    pub takes-submit : not l.job_over && (not l.returning && not (in_use (l.packets p).status)) ≡ true
    takes-submit =
        let x : is_running (state_in s.jobs h.place) ≡ true = rw at_j k.running in
        let y : l.job_over ≡ false = S.over ∙ rw x in
        let z : in_use (l.packets p).status ≡ false =
        by_bool (in_use (l.packets p).status)
        (λ u. never {b = (is_busy (packet_in s.jobs j p).status)} (rw at_j at (here-busy h s l S p u)) k.idle) (λ u. u) in
        let v : l.returning ≡ false = S.asked (its_own h s H) ∙ sym (return-is h s.units c a t) ∙ k.staying in
        and_both _ _ (ap not y) (and_both _ _ (ap not v) (ap not z))

    pub sim-submit : Sim h (submitted s j p f c w) (hears l p f (target_of w))
    sim-submit =
        rw (goes_to_lem w)
        (by_bool (eqb f 0o07)
        (λ e. let then = cond (locked s c a) (unlock s j p f c a) (pass s j p f c a) in
        rw e (subst (λ (x : Bool). Sim h then (unlocks l p f (word_at a) x)) locked-is (sim-seven (locked s c a) refl)))
        (λ e. rw e (by_bool (eqb f 0o23) (λ d. rw d sim-terminate) (λ d. rw d sim-enlist))))

  module _ (away : eqb h.place j && is_there h c a ≡ false) where
    not_there : h.place ≡ j → is_there h c a ≡ true → ⊥
    not_there e t = never {b = eqb h.place j && is_there h c a} (and_both _ _ (eq-eqb h.place j e) t) away

    sim-unlock-away : locked s c a ≡ true → Sim h (unlock s j p f c a) l
    sim-unlock-away d =
        let inside = ready-inside s j p ready in
        let s₁ = sweep s j (is_at c a) failed in
        let I₁ : Inv s₁ = sweep-inv s I j (is_at c a) failed inside refl failed-going in
        let r₁ : Ready s₁ j p = ready-sweep s j p (is_at c a) failed refl failed-idle ready in
        let S₁ : Sim h s₁ l = sim-sweep-away h s I l S j (is_at c a) failed inside refl miss in
        store-gone (lock s₁ c a false) (lock-inv s₁ I₁ c a false)
        (sim-units-away h s₁ I₁ l S₁ (set_lock s.units c a false) (stays-locked h s.units c a false)
        (lock-away h s.units c a false (held-taken (unit_at s.units c a).holder j theirs) other))
        (record { small = r₁.small; running = r₁.running; idle = r₁.idle }) away (Ended 0o00)
      where
        theirs : held_by (unit_at s.units c a).holder j ≡ true
        theirs = owns-unit s j p f c w k (locked-unit s.units c a d)

        other : h.drum ≡ false → h.channel ≡ c → a ≡ its_unit h → ⊥
        other o x y =
            let z : held_by (unit_in s.units c h.unit).holder j ≡ true =
            subst (λ (v : Site). held_by (unit_at s.units c v).holder j ≡ true) y theirs in
            not_there
            (held-once (unit_in s.units c h.unit).holder h.place j (rw x at (unit-held h s H o)) z)
            (is-there h c a o (sym x) y)

        miss : (n : ℕ) → h.place ≡ j → there h (packet_in s.jobs h.place n) ≡ true → is_at c a (packet_in s.jobs h.place n) ≡ false
        miss n e y =
            let q = packet_in s.jobs h.place n in
            by_bool (is_at c a q)
            (λ z. absurd (not_there e (rw (
              eqb-true q.channel.0 c (and_left (eqb q.channel.0 c) (same q.at a) z),
              same-is q.at a (and_right (eqb q.channel.0 c) (same q.at a) z),
            ) at y)))
            (λ z. z)

    sim-terminate-away : Sim h (terminate s j p f c w) l
    sim-terminate-away =
        let inside = ready-inside s j p ready in
        let test = aimed c w in
        store-gone (sweep s j test cut) (sweep-inv s I j test cut inside refl cut-going)
        (sim-sweep-away h s I l S j test cut inside refl miss)
        (ready-sweep s j p test cut refl cut-idle ready) away (Ended 0o00)
      where
        miss : (n : ℕ) → h.place ≡ j → there h (packet_in s.jobs h.place n) ≡ true → aimed c w (packet_in s.jobs h.place n) ≡ false
        miss n e y =
            let q = packet_in s.jobs h.place n in
            by_bool (aimed c w q)
            (λ z. let x : q.channel.0 ≡ c = eqb-true q.channel.0 c (and_left (eqb q.channel.0 c) _ z) in
            let y' : is_there h c q.at ≡ true = rw x at y in
            absurd (not_there e (covers-there h c w q.at (and_right (eqb q.channel.0 c) _ z) y')))
            (λ z. z)

    pub sim-submit-away : Sim h (submitted s j p f c w) l
    sim-submit-away =
        by_bool (eqb f 0o07)
        (λ e. rw e
        (by_bool (locked s c a)
        (λ d. rw d (sim-unlock-away d))
        (λ d. rw d (store-gone s I S ready away (Ended 0o00)))))
        (λ e. rw e (by_bool (eqb f 0o23) (λ d. rw d sim-terminate-away)
        (λ d. rw d
        (sim-enqueue-away h (store s j p (packet Listed f c a)) (ready-store s I j p (packet Listed f c a) ready) l
        (store-gone s I S ready away Listed) j p (listed-new s I j p f c w k) listed-away))))
      where
        listed-away : on h (put s.jobs j p (packet Listed f c a)) (entry_of j p) ≡ false
        listed-away =
            rw (entry_place j p k.small, entry-packet j p k.small)
            (by_bool (eqb j h.place)
            (λ e. let x : j ≡ h.place = eqb-true j h.place e in
            rw (e, ← x, stored_at s I j p (packet Listed f c a) ready)
            (by_bool (is_there h c a) (λ t. absurd (not_there (sym x) t)) (λ t. t)))
            (λ e. rw e))
