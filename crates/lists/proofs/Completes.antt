-- A completion's outcome, from what its parts have computed. Assumes nothing.
use Rattle.std.proofs.Common.{None, Ok, Some}
use Prim.Native.Nat.{ℕ, ◌%◌, ◌<◌}
use mathlib.Core.Path.{◌≡◌, refl, sym, ap, ◌∙◌}
use mathlib.Core.Bool.{Bool, true, false, not, cond, ◌&&◌, ◌||◌}
use mathlib.Core.List.{List, map}
use native.Mathlib.Omega.{arith}
use lib.ListN.{length, get_or, set}
use lib.Dec.{ltb}
use borrow.Author.Tests.{ltb-true, not-false}
use Rattle.numbers.proofs.Tests.{by_bool, never}
use Rattle.numbers.specs.declared.Refusal.TheVariants.{NothingInProgress, OutOfRange, WrongCompletion}
use Rattle.units.specs.State.{is_returning, units_from}
use Rattle.units.specs.declared.Unit.{Unit as UnitState}
use Rattle.units.specs.declared.Units.{Units}
use Rattle.channels.specs.declared.Channel.{Channel}
use Rattle.packets.proofs.Laws.{and_left, and_right, neither, passes}
use Rattle.packets.specs.Rules.{accept, answer, is_at, broken, code_for, completed, completes, failed, finished, first}
use Rattle.packets.specs.Rules.{free_if_returning, is_trouble, is_wrong, leaving, over, refusal, return_if_done}
use Rattle.packets.proofs.ByNumber.{Complete}
use Rattle.packets.specs.State.{State, blank, carrying, configured, is_idle, is_listed, is_there_of, is_unit, job_in, lock, motion_on}
use Rattle.packets.specs.State.{moving_status, move, no_job, packet_in, relist, restatus, set_lock, store, sweep, unit_at, with_packets}
use Rattle.packets.specs.State.{with_status}
use Rattle.packets.proofs.Told.{configured-in}
use Rattle.packets.specs.declared.Acted.{Acted}
use Rattle.packets.specs.declared.Answer.TheVariants.{Completed}
use Rattle.packets.specs.declared.Carrier.{Carrier}
use Rattle.packets.specs.declared.Ending.{Ending}
use Rattle.packets.specs.declared.How.{How}
use Rattle.packets.specs.declared.Job.{Job}
use Rattle.packets.specs.declared.Lists.{Lists}
use Rattle.packets.specs.State.{Motion}
use Rattle.packets.specs.declared.Packet.{Packet}
use Rattle.packets.specs.declared.RequestList.{RequestList}
use Rattle.packets.specs.declared.Site.{Site}
use Rattle.packets.specs.declared.Site.TheVariants.{AtAddress, AtUnit}
use Rattle.packets.specs.declared.Status.{Status}
use Rattle.packets.specs.declared.Status.TheVariants.{Blank, Ended, InProgress, Listed, Stopping}
use Rattle.packets.specs.State.{Verdict}
use Rattle.packets_queue.specs.Padded.{list_of, padded}
use Rattle.packets_job.specs.Aims.{status_set}
use Rattle.packets_end.specs.Over.{broken_for, ending_of, over_job}
use Rattle.lists.proofs.Calls.{granted-is, on-is, small_is}
use Rattle.lists.proofs.Focus.{ending-packets, fewer-map, focus, focus-leaving, focus-return}
use Rattle.lists.proofs.Focus.{focus-self, focus-store, focus-sweep, relist-twice, reunit}
use Rattle.lists.specs.Outcomes.{lists_of, outcome, state_of}
use Rattle.lists.specs.Parts.{packet_no, place_in, units_after}

-- what a failure changes is not listed
failed-listed : (t : Status) → is_listed (failed t) ≡ true → is_listed t ≡ true
failed-listed Blank e = e
failed-listed Listed e = refl
failed-listed InProgress e = e
failed-listed Stopping e = e
failed-listed (Ended k) e = e

-- only a unit is broken
broken-at : (c : ℕ) (a : Site) → is_unit a ≡ true → (ps : List Packet) → broken_for ps c a ≡ map (restatus (is_at c a) failed) ps
broken-at c (AtUnit u) e ps = refl
broken-at c (AtAddress x) e ps = never {b = false} e refl

-- the packet has ended, and what it broke
module _ (s : State) (c j p : ℕ) (how : How) (h : j < length s.jobs) where
  abbrev job : Job
  job = job_in s.jobs j

  abbrev ended : List Packet
  ended = status_set job.packets p (Ended (code_for how))

  abbrev at : Site
  at = (get_or job.packets p blank).at

  over-is : over s c j p (code_for how) ≡ focus (move s c None) j (with_packets job ended) (relist j ended s.queue)
  unfolding packet_in
  over-is =
      let q = with_status (get_or job.packets p blank) (Ended (code_for how)) in
      ap (λ (z : State). store z j p q) (focus-self (move s c None) j) ∙ focus-store (move s c None) j h job s.queue p q

  broken-is : broken (over s c j p (code_for how)) c at j
      ≡ focus (reunit (move s c None) (set_lock s.units c at true)) j (with_packets job (map (restatus (is_at c at) failed) ended))
      (relist j (map (restatus (is_at c at) failed) ended) s.queue)
  broken-is =
      let qs = map (restatus (is_at c at) failed) ended in
      ap (λ (z : State). lock z c at true)
      (ap (λ (z : State). sweep z j (is_at c at) failed) over-is
      ∙ focus-sweep (move s c None) j h (with_packets job ended) (relist j ended s.queue) (is_at c at) failed
      ∙ ap (focus (move s c None) j (with_packets job qs)) (relist-twice j ended qs (fewer-map ended (is_at c at) failed failed-listed) s.queue))

  -- what a completion leaves before facilities return
  pub finished-is : let b = is_trouble s.codes how && is_unit at in
      let after = over_job job p how c b in
      finished s c how j p ≡ focus (reunit (move s c None) (cond b (set_lock s.units c at true) s.units)) j after
      (relist j after.packets s.queue)
  unfolding packet_in
  finished-is =
      by_bool (is_trouble s.codes how && is_unit at)
      (λ t. rw (t, broken-at c at (and_right (is_trouble s.codes how) _ t) ended) broken-is)
      (λ t. rw t over-is)

-- what moves is a packet of the cell, read by its place and number
busy : (m : Motion) → is_idle m ≡ false → (m ≡ Some (place_in m, packet_no m)) × (place_in m < 16)
busy None i = never {b = true} refl i
busy (Some (a, b)) i = (refl, ltb-true a 16 (and_left (ltb a 16) _ (not-false _ i)))

same : (s : State) (m : Motion) → is_idle m ≡ false
    → (get_or (get_or s.jobs (place_in m % 16) no_job).packets (packet_no m) blank).status ≡ moving_status s m
unfolding packet_in
same s None i = never {b = true} refl i
same s (Some (j, p)) i = let k : j % 16 ≡ j = small_is j (and_left (ltb j 16) _ (not-false _ i)) in rw k

module _ (r : Lists) (c : ℕ) (how : How) (m : Motion) (is : m ≡ (get_or r.moving (c % 16) (carrying None)).motion)
    (j p : ℕ) (ji : j ≡ place_in m) (pi : p ≡ packet_no m) (q : Packet) (qi : q ≡ get_or (get_or r.jobs (j % 16) no_job).packets p blank) where
  pub complete-verdict : (on : Channel) → on ≡ get_or r.channels (c % 16) (record { has = None }) → (v : Verdict)
      → v ≡ first (not (ltb c 16 && is_there_of on.has)) OutOfRange
      (first (is_idle m) NothingInProgress (first (is_wrong q.status how) WrongCompletion (Ok tt)))
      → refusal (state_of r) (Complete c how) ≡ v
  unfolding refusal
  complete-verdict on oi v e =
      by_bool (configured r.channels c)
      (λ t. let h = configured-in r.channels c t in
      let k : c % 16 ≡ c = omega arith in
      let n : m ≡ motion_on (state_of r) c = is ∙ ap (λ (i : ℕ). (get_or r.moving i (carrying None)).motion) k in
      by_bool (is_idle m)
      (λ d. rw (e, on-is r.channels c on oi, t, d, ← n, d))
      (λ d. rw (e, on-is r.channels c on oi, t, d, ← n, d, qi, ji, pi, same (state_of r) m d)))
      (λ t. rw (e, on-is r.channels c on oi, t))

  module _ (size : length r.jobs ≡ 16) (granted : refusal (state_of r) (Complete c how) ≡ Ok tt) where
    told : (c < 16) × (is_idle (motion_on (state_of r) c) ≡ false)
    told = unfold refusal in
        let r₁ = passes (not (configured r.channels c)) OutOfRange _ granted in
        (configured-in r.channels c (not-false _ r₁.0), (passes (is_idle (motion_on (state_of r) c)) NothingInProgress _ r₁.1).0)

    now : m ≡ motion_on (state_of r) c
    now = is ∙ ap (λ (i : ℕ). (get_or r.moving i (carrying None)).motion) (let h = told.0 in omega arith)

    moves : (motion_on (state_of r) c ≡ Some (j, p)) × (j < 16)
    moves = let b = busy m (rw now told.1) in (rw (ji, pi) (sym now ∙ b.0), rw ji b.1)

    abbrev site : Site
    site = (get_or (job_in r.jobs j).packets p blank).at

    abbrev breaks : Bool
    breaks = is_trouble r.codes how && is_unit site

    abbrev overs : Job
    overs = over_job (job_in r.jobs j) p how c breaks

    abbrev shut : State
    shut = reunit (move (state_of r) c None) (cond breaks (set_lock r.units.of c site true) r.units.of)

    abbrev kept : List ℕ
    kept = relist j overs.packets (list_of r.list)

    whole : finished (state_of r) c how j p ≡ focus shut j overs kept
    whole = finished-is (state_of r) c j p how (omega (arith, size, moves.1))

    pub complete-is : (idle : Carrier) → idle ≡ carrying None
        → (b : Bool) → b ≡ is_trouble r.codes how && is_unit q.at
        → (over : Ending) → over ≡ ending_of (over_job (get_or r.jobs (j % 16) no_job) p how c b) (set r.moving (c % 16) idle) j
        → (left : RequestList) → left ≡ padded (relist j over.job.packets (list_of r.list))
        → (units : Units) → units ≡ units_from (units_after r.units.of c q.at b j over.done)
        → ◌≡◌ {A = Acted}
        (record {
          lists = record {
            channels = r.channels;
            codes = r.codes;
            jobs = set r.jobs (j % 16) over.job;
            list = left;
            moving = set r.moving (c % 16) idle;
            units = units;
          };
          answer = Completed j p over.leaving;
        })
        (outcome r (Complete c how))
    unfolding accept answer packet_in
    complete-is idle i b bi over o left l units u =
        let k : c % 16 ≡ c = (let h = told.0 in omega arith) in
        let n : j % 16 ≡ j = (let h = moves.1 in omega arith) in
        let h : j < length r.jobs = omega (arith, size, moves.1) in
        granted-is r (Complete c how) granted _ _
        (rw (l, u, o, bi, qi, i, k, n, ending-packets _ overs)
        (sym (ap (λ (x : Motion). lists_of (completed (state_of r) c how x)) moves.0
        ∙ ap (λ (z : State). lists_of (free_if_returning z c site)) (ap (return_if_done j) whole ∙ focus-return shut j h overs kept))))
        (rw (o, bi, qi, i, k, n)
        (sym (ap (completes (state_of r) c how) moves.0 ∙ ap (Completed j p) (ap (leaving j) whole ∙ focus-leaving shut j h overs kept))))

-- nothing of the units changes where nothing broke, nothing is done and the unit is not being returned
pub unchanged : (units : List (List UnitState)) (c j : ℕ) (a : Site) (unit : UnitState) → unit ≡ unit_at units c a
    → (b d : Bool) → b || (d || is_returning unit.holder) ≡ false → units ≡ units_after units c a b j d
unchanged units c j a unit is b d e =
    let x = neither b (d || is_returning unit.holder) e in
    let y = neither d (is_returning unit.holder) x.1 in
    let z : is_returning (unit_at units c a).holder ≡ false = rw (← is) y.1 in
    rw (x.0, y.0, z)
