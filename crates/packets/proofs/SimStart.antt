-- A start and a return: the holding and its lone unit stay alike, and make the same start. Assumes nothing.
use Rattle.std.proofs.Common.{Some}
use Prim.Native.Nat.{ℕ, ◌<◌}
use mathlib.Core.Path.{◌≡◌, refl, sym, ap, ◌∙◌, subst}
use mathlib.Core.Bool.{true, false, not, ◌&&◌}
use mathlib.Core.List.{List, ◌∷◌, map}
use mathlib.Core.Option.{none, some}
use lib.Dec.{eqb}
use borrow.Author.Tests.{eqb-true, eq-eqb, not-true}
use Rattle.numbers.proofs.Tests.{by_bool, never}
use Rattle.units.specs.State.{unit_in}
use Rattle.packets.specs.Demand.{Holding, Holds, is_there, start_in, there}
use Rattle.packets.proofs.Inv.{EntryOk, Inv, listed-busy}
use Rattle.packets.proofs.InvStores.{idle-is}
use Rattle.packets.proofs.Laws.{all-imp, and_both, and_left, and_right, eqb-self, find-holds, find-keep}
use Rattle.packets.specs.Lone.{Lone, become, has_listed, is_at_rest, sets_off, start_of, stores}
use Rattle.numbers.specs.Elements.{find, keep}
use Rattle.packets.specs.Rules.{begins, begun, return_if_done, startable}
use Rattle.packets.proofs.Sim.{Sim, like-status, lock_there, moving_there, num, on, sim-store, sim-store-away}
use Rattle.packets.proofs.SimRest.{Stays, sim-move, sim-move-away, sim-same, stays-free, stays-held}
use Rattle.packets.proofs.There.{lock-is, there-channel}
use Rattle.packets.specs.State.{State, any_moves, held_by, is_busy, is_closing, is_idle, is_running, motion_on, packet_in}
use Rattle.packets.specs.State.{packet_of, place_of, put, release, release_all, set_state, state_in, store, unit_at}
use Rattle.packets.specs.State.{with_status}
use Rattle.packets.proofs.Steps.{closing-not-running, start-at, start_fits, start-store, startable-on}
use Rattle.packets.proofs.Store.{alive-in, packet-state, state-state, unit-release}
use Rattle.packets.specs.declared.Job.{Job}
use Rattle.packets.specs.declared.JobState.TheVariants.{Empty}
use Rattle.packets.specs.declared.Status.TheVariants.{InProgress}

-- ---- a return

pub sim-return : (h : Holding) (s : State) → Inv s → (l : Lone) → Sim h s l → (j : ℕ) → Sim h (return_if_done j s) l
sim-return h s I l S j =
    by_bool (is_closing (state_in s.jobs j) && not (any_moves j s.moving))
    (λ e. rw e (sim-same h s I l S (release_all s.units j) (set_state s.jobs j Empty) released
    (by_bool h.drum (λ d. rw d) (λ d. rw (d, unit-release s.units j h.channel h.unit)))
    (packet-state s.jobs j Empty h.place) (still-over (and_left (is_closing (state_in s.jobs j)) _ e))))
    (λ e. rw e S)
  where
    released : Stays h (release_all s.units j) s.units
    released =
        let e : unit_in (release_all s.units j) h.channel h.unit ≡ release j (unit_in s.units h.channel h.unit) =
        unit-release s.units j h.channel h.unit in
        by_bool h.drum (λ d. stays-held h (release_all s.units j) s.units (λ n. never {b = h.drum} d n))
        (λ d. by_bool (held_by (unit_in s.units h.channel h.unit).holder j)
        (λ t. stays-free h (release_all s.units j) s.units d (rw (e, t)))
        (λ t. stays-held h (release_all s.units j) s.units (λ n. rw (e, t))))

    -- a closing job does not run, nor does an empty place
    still-over : is_closing (state_in s.jobs j) ≡ true
        → is_running (state_in (set_state s.jobs j Empty) h.place) ≡ is_running (state_in s.jobs h.place)
    still-over c =
        let k = closing-not-running (state_in s.jobs j) c in
        rw (state-state s.jobs j Empty h.place (alive-in s.jobs j k.1))
        (by_bool (eqb h.place j) (λ d. rw d (sym (rw (eqb-true h.place j d) k.0))) (λ d. rw d))

-- ---- a start

module _ (h : Holding) (s : State) (I : Inv s) (H : Holds s h) (l : Lone) (S : Sim h s l) (c : ℕ) (small : c < 16)
    (idle : is_idle (motion_on s c) ≡ true) (e : ℕ) (found : find (startable s c) s.queue ≡ some e) where
  entry-ok : EntryOk s e
  entry-ok = (find-holds (EntryOk s) (startable s c) s.queue e I.queued found).0

  can-start : startable s c e ≡ true
  can-start = (find-holds (EntryOk s) (startable s c) s.queue e I.queued found).1

  pub on-channel : (packet_in s.jobs (place_of e) (packet_of e)).channel.0 ≡ c
  on-channel = startable-on s c e can-start

  module _ (at-e : place_of e ≡ h.place) (t : there h (packet_in s.jobs h.place (packet_of e)) ≡ true) where
    channel-is : h.channel ≡ c
    channel-is = let q = packet_in s.jobs h.place (packet_of e) in sym (there-channel h q.channel.0 q.at t) ∙ rw at-e at on-channel

    no-lock : lock_there h s.units ≡ false
    no-lock =
        let q = packet_in s.jobs (place_of e) (packet_of e) in
        let v : not (unit_at s.units c q.at).interlock ≡ true = and_right (eqb q.channel.0 c) _ can-start in
        let t₁ : there h q ≡ true = rw at-e t in
        let t₂ : is_there h c q.at ≡ true = rw on-channel at t₁ in
        sym (lock-is h s.units c q.at t₂) ∙ not-true _ v

    others : (x : ℕ) → on h s.jobs x ≡ true → startable s c x ≡ true
    others x o =
        let p : place_of x ≡ h.place = eqb-true (place_of x) h.place (and_left (eqb (place_of x) h.place) _ o) in
        let y : there h (packet_in s.jobs h.place (packet_of x)) ≡ true = and_right (eqb (place_of x) h.place) _ o in
        let q = packet_in s.jobs h.place (packet_of x) in
        let k : q.channel.0 ≡ c = there-channel h q.channel.0 q.at y ∙ channel-is in
        let y' : is_there h c q.at ≡ true = rw k at y in
        rw (p, k, eqb-self c, lock-is h s.units c q.at y', no-lock)

    first-is : (r : List ℕ) × (keep (on h s.jobs) s.queue ≡ e ∷ r)
    first-is =
        find-keep (startable s c) (on h s.jobs) s.queue e found (rw (at-e, eqb-self h.place) t)
        (all-imp (EntryOk s) (λ (x : ℕ). on h s.jobs x ≡ true → startable s c x ≡ true) (λ x k. others x) s.queue I.queued)

    order_is : l.order ≡ packet_of e ∷ map num first-is.0
    order_is = S.order ∙ ap (λ (x : List ℕ). map num x) first-is.1

    -- the lone unit takes it: its job runs, nothing is in progress or stopping, no interlock is set, and something
    -- is listed
    pub takes-start : not l.job_over && (is_at_rest l.moving && (not l.interlock && has_listed l.order)) ≡ true
    takes-start =
        let x : is_running (state_in s.jobs h.place) ≡ true = rw (← at-e) entry-ok.running in
        let o : l.job_over ≡ false = S.over ∙ rw x in
        let m : l.moving ≡ none =
        S.moving ∙ ap (λ (k : ℕ). moving_there h s.jobs (motion_on s k)) channel-is ∙ ap (moving_there h s.jobs) (idle-is s I c idle) in
        and_both _ _ (ap not o) (and_both _ _ (ap is_at_rest m) (and_both _ _ (ap not (S.lock ∙ no-lock)) (ap has_listed order_is)))

    -- the packet, which is listed, is at the same word on both sides
    was-busy : is_busy (packet_in s.jobs h.place (packet_of e)).status ≡ true
    was-busy = listed-busy (packet_in s.jobs h.place (packet_of e)).status (rw at-e at entry-ok.listed)

    pub same_start : start_of l l.order ≡ start_in (begins s (some e))
    same_start =
        let k = S.table (packet_of e) t in
        ap (start_of l) order_is ∙ rw (at-e, k.function, k.word was-busy)

    pub sim-start : Sim h (begun s c e) (sets_off l l.order)
    sim-start =
        let q = with_status (packet_in s.jobs (place_of e) (packet_of e)) InProgress in
        let s₁ = store s (place_of e) (packet_of e) q in
        let r₁ = become (l.packets (packet_of e)) InProgress in
        let l₁ = stores l (packet_of e) r₁ in
        let S₁ : Sim h s₁ l₁ =
        sim-store h s I l S (place_of e) (packet_of e) q (start_fits s I c small e entry-ok on-channel) (λ b. refl) (sym at-e) (rw at-e t) r₁
        (rw at-e (like-status (S.table (packet_of e) t) InProgress InProgress refl (λ b. was-busy))) in
        subst (λ (x : List ℕ). Sim h (begun s c e) (sets_off l x)) (sym order_is)
        (sim-move h s₁ (start-store s I c small e entry-ok on-channel) l₁ S₁ c (Some (place_of e, packet_of e)) (some (packet_of e))
        small channel-is now-moving)
      where
        now-moving : moving_there h
            (put s.jobs (place_of e) (packet_of e) (with_status (packet_in s.jobs (place_of e) (packet_of e)) InProgress))
            (Some (place_of e, packet_of e))
            ≡ some (packet_of e)
        now-moving =
            let t' : there h (packet_in s.jobs (place_of e) (packet_of e)) ≡ true = rw at-e t in
            rw (← at-e, eqb-self (place_of e), start-at s I c small e entry-ok on-channel, t')

  module _ (away : eqb h.place (place_of e) && there h (packet_in s.jobs (place_of e) (packet_of e)) ≡ false) where
    pub sim-start-away : Sim h (begun s c e) l
    sim-start-away =
        let q = with_status (packet_in s.jobs (place_of e) (packet_of e)) InProgress in
        let s₁ = store s (place_of e) (packet_of e) q in
        let S₁ : Sim h s₁ l =
        sim-store-away h s I l S (place_of e) (packet_of e) q (start_fits s I c small e entry-ok on-channel) (λ b. refl) away in
        sim-move-away h s₁ (start-store s I c small e entry-ok on-channel) l S₁ c (Some (place_of e, packet_of e)) small
        (λ x. not-moving ∙ sym (ap (moving_there h after) (idle-is s I c idle)))
      where
        after : List Job
        after = put s.jobs (place_of e) (packet_of e) (with_status (packet_in s.jobs (place_of e) (packet_of e)) InProgress)

        not-moving : moving_there h after (Some (place_of e, packet_of e)) ≡ none
        not-moving =
            by_bool (eqb (place_of e) h.place)
            (λ x. let y : h.place ≡ place_of e = sym (eqb-true (place_of e) h.place x) in
            let g : there h (packet_in s.jobs (place_of e) (packet_of e)) ≡ false = rw (eq-eqb h.place (place_of e) y) at away in
            rw (x, y, start-at s I c small e entry-ok on-channel, g))
            (λ x. rw x)
