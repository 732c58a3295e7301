-- A submission's outcome, from what its parts have computed: each function's stores are one store of the job and
-- one pass over the list. Assumes nothing.
use Rattle.std.proofs.Common.{Ok, None}
use Prim.Native.Nat.{ℕ, ◌%◌, ◌<◌}
use mathlib.Core.Path.{◌≡◌, refl, sym, ap, ◌∙◌}
use mathlib.Core.Bool.{Bool, true, false, not, cond, ◌&&◌}
use mathlib.Core.List.{List, map}
use native.Mathlib.Omega.{arith}
use lib.ListN.{length, get_or, set}
use lib.Dec.{eqb, ltb}
use borrow.Author.Tests.{eqb-true, ltb-true, not-false}
use Rattle.numbers.proofs.Tests.{by_bool, never}
use Rattle.numbers.specs.declared.Refusal.TheVariants.{OutOfRange}
use Rattle.units.specs.State.{units_from}
use Rattle.units.specs.declared.Unit.{Unit as UnitState}
use Rattle.units.specs.declared.Units.{Units}
use Rattle.channels.specs.declared.Channel.{Channel}
use Rattle.packets.proofs.Laws.{and_left, and_right, passes}
use Rattle.packets.specs.Rules.{accept, aimed, answer, cut, enlist, failed, in_range, is_at, locked}
use Rattle.packets.specs.Rules.{packet, pass, refusal, site_of, submit_refusal, submitted}
use Rattle.packets.proofs.ByNumber.{Submit}
use Rattle.packets.specs.State.{State, enqueue, entry_of, fitted_on, job_in, no_job, relist, restatus, set_lock, store, sweep, unit_at, with_packets}
use Rattle.packets.specs.declared.Acted.{Acted}
use Rattle.packets.specs.declared.Answer.TheVariants.{Done}
use Rattle.packets.specs.declared.Job.{Job}
use Rattle.packets.specs.declared.Lists.{Lists}
use Rattle.packets.specs.declared.Packet.{Packet}
use Rattle.packets.specs.declared.RequestList.{RequestList}
use Rattle.packets.specs.declared.Site.{Site}
use Rattle.packets.specs.declared.Spot.{Spot}
use Rattle.packets.specs.declared.Spot.TheVariants.{OnDrum, OnUnit}
use Rattle.packets.specs.declared.Status.{Status}
use Rattle.packets.specs.declared.Status.TheVariants.{Ended, Listed}
use Rattle.packets.specs.State.{Verdict}
use Rattle.packets_queue.specs.Padded.{list_of, padded}
use Rattle.packets_submit.specs.After.{is_unlocking, job_after, unlocked_for}
use Rattle.lists.proofs.Calls.{granted-is, small_is}
use Rattle.lists.proofs.Focus.{fewer-set, focus, focus-self, focus-store, focus-sweep, relist-twice, reunit}
use Rattle.lists.specs.Outcomes.{lists_of, outcome, state_of}
use Rattle.lists.specs.Parts.{list_after, listed_as}

-- 07 under interlock is for a unit
unlocked-is : (units : List (List UnitState)) (c : ℕ) (w : Spot) → (unit_at units c (site_of w)).interlock ≡ true → (ps : List Packet)
    → unlocked_for ps c w ≡ map (restatus (is_at c (site_of w)) failed) ps
unlocked-is units c (OnUnit u) e ps = refl
unlocked-is units c (OnDrum l h) e ps = never {b = false} e refl

module _ (s : State) (j : ℕ) (h : j < length s.jobs) (p f c : ℕ) (w : Spot) where
  abbrev a : Site
  a = site_of w

  abbrev job : Job
  job = job_in s.jobs j

  abbrev ended : Packet
  ended = packet (Ended 0o00) f c a

  pass-is : pass s j p f c a ≡ focus s j (with_packets job (set job.packets p ended)) (relist j (set job.packets p ended) s.queue)
  pass-is = ap (λ (z : State). store z j p ended) (focus-self s j) ∙ focus-store s j h job s.queue p ended

  enlist-is : enlist s j p f c a
      ≡ enqueue (focus s j (with_packets job (set job.packets p (packet Listed f c a)))
      (relist j (set job.packets p (packet Listed f c a)) s.queue))
      j p
  enlist-is =
      ap (λ (z : State). enqueue z j p)
      (ap (λ (z : State). store z j p (packet Listed f c a)) (focus-self s j) ∙ focus-store s j h job s.queue p (packet Listed f c a))

  -- a sweep, with other units then, and the packet stored
  swept-is : (t : Packet → Bool) (g : Status → Status) (units : List (List UnitState))
      → store (reunit (sweep s j t g) units) j p ended
      ≡ focus (reunit s units) j (with_packets job (set (map (restatus t g) job.packets) p ended))
      (relist j (set (map (restatus t g) job.packets) p ended) s.queue)
  swept-is t g units =
      let ps = map (restatus t g) job.packets in
      ap (λ (z : State). store (reunit z units) j p ended) (ap (λ (z : State). sweep z j t g) (focus-self s j) ∙ focus-sweep s j h job s.queue t g)
      ∙ focus-store (reunit s units) j h (with_packets job ps) (relist j ps s.queue) p ended
      ∙ ap (focus (reunit s units) j (with_packets job (set ps p ended))) (relist-twice j ps (set ps p ended) (fewer-set ps p ended refl) s.queue)

  -- what a submission leaves, as the code builds it
  pub submitted-is : let u = is_unlocking f (unit_at s.units c a).interlock in
      let after = job_after job p f c w u in
      submitted s j p f c w
      ≡ focus (reunit s (cond u (set_lock s.units c a false) s.units)) j after (list_after f (entry_of j p) (relist j after.packets s.queue))
  submitted-is =
      by_bool (eqb f 0o07)
      (λ t. by_bool (locked s c a)
      (λ l. rw (t, l, unlocked-is s.units c w l job.packets) (swept-is (is_at c a) failed (set_lock s.units c a false)))
      (λ l. rw (t, l, other t) pass-is))
      (λ t. by_bool (eqb f 0o23)
      (λ d. rw (t, d) (swept-is (aimed c w) cut s.units))
      (λ d. rw (t, d) enlist-is))
    where
      other : eqb f 0o07 ≡ true → eqb f 0o23 ≡ false
      other t = let q : f ≡ 0o07 = eqb-true f 0o07 t in rw q refl

-- a function is not in range where one of its numbers is not
past : (a b d : Bool) → (a && (b && (d && false))) ≡ false
past true true true = refl
past true true false = refl
past true false d = refl
past false b d = refl

module _ (r : Lists) (j p f c : ℕ) (w : Spot) (on : Channel) (oi : on ≡ get_or r.channels (c % 16) (record { has = None }))
    (unit : UnitState) (is : unit ≡ unit_at r.units.of c (site_of w)) where
  -- what the channel has, if its number is below 16
  here : ltb c 16 ≡ true → on.has ≡ fitted_on r.channels c
  unfolding fitted_on
  here t = rw (oi, small_is c t)

  pub submit-verdict : (v : Verdict) → v ≡ submit_refusal on.has (get_or r.jobs (j % 16) no_job) unit j p f c w
      → refusal (state_of r) (Submit j p f c w) ≡ v
  unfolding refusal
  submit-verdict v e =
      by_bool (ltb c 16)
      (λ s. by_bool (ltb j 16) (λ t. rw (e, here s, is, small_is j t)) (λ t. rw (e, t)))
      (λ s. rw (e, s, past (ltb j 16) (ltb p 16) (ltb f 64)))

  module _ (size : length r.jobs ≡ 16) (granted : refusal (state_of r) (Submit j p f c w) ≡ Ok tt) where
    inside : in_range (fitted_on r.channels c) j p f c w ≡ true
    inside = unfold refusal in not-false _ (passes (not (in_range (fitted_on r.channels c) j p f c w)) OutOfRange _ granted).0

    place-small : j < 16
    place-small = ltb-true j 16 (and_left (ltb j 16) _ inside)

    packet-small : p < 16
    packet-small = ltb-true p 16 (and_left (ltb p 16) _ (and_right (ltb j 16) _ inside))

    pub submit-is : (unlocking : Bool) → unlocking ≡ is_unlocking f unit.interlock
        → (changed : Job) → changed ≡ job_after (get_or r.jobs (j % 16) no_job) p f c w unlocking
        → (left : RequestList) → left ≡ padded (list_after f (listed_as j p) (relist j changed.packets (list_of r.list)))
        → (units : Units) → units ≡ units_from (cond unlocking (set_lock r.units.of c (site_of w) false) r.units.of)
        → ◌≡◌ {A = Acted}
        (record {
          lists = record {
            channels = r.channels;
            codes = r.codes;
            jobs = set r.jobs (j % 16) changed;
            list = left;
            moving = r.moving;
            units = units;
          };
          answer = Done;
        })
        (outcome r (Submit j p f c w))
    unfolding accept answer entry_of
    submit-is unlocking ul changed g left l units u =
        let k : j % 16 ≡ j = omega (arith, place-small) in
        let m : p % 16 ≡ p = omega (arith, packet-small) in
        granted-is r (Submit j p f c w) granted _ _
        (rw (l, u, g, ul, is, k, m) (sym (ap lists_of (submitted-is (state_of r) j (omega (arith, size, place-small)) p f c w))))
        refl
