-- Each call's outcome, from what its parts have computed. Assumes nothing.
use Rattle.std.proofs.Common.{Err, Ok, None}
use Prim.Native.Nat.{ℕ, ◌%◌, ◌<◌}
use mathlib.Core.Path.{◌≡◌, refl, sym, ap, ◌∙◌}
use mathlib.Core.Bool.{Bool, true, not, cond, ◌&&◌}
use mathlib.Core.List.{List}
use native.Mathlib.Omega.{arith}
use lib.ListN.{length, get_or, set}
use lib.Dec.{ltb}
use borrow.Author.Tests.{ltb-true, not-false}
use Rattle.numbers.proofs.Tests.{by_bool}
use Rattle.numbers.specs.declared.Refusal.{Refusal}
use Rattle.numbers.specs.declared.Refusal.TheVariants.{NoJob, NoPlaceFree, OutOfRange}
use Rattle.units.specs.State.{marked_unit, unit_in, unit_set, units_from}
use Rattle.units.specs.declared.Mark.{Mark as UnitMark}
use Rattle.units.specs.declared.Units.{Units}
use Rattle.channels.specs.declared.Channel.{Channel}
use Rattle.packets.specs.State.{Fitting}
use Rattle.packets.proofs.Laws.{and_left, passes}
use Rattle.packets.specs.Rules.{Call, Take, accept, always, answer, closed, closing, cut, first, fresh_job, leaving, reaches, refusal, return_if_done}
use Rattle.packets.proofs.ByNumber.{End, Mark}
use Rattle.packets.specs.State.{State, close, configured, fitted_on, is_empty, is_there_of, is_running, job_in}
use Rattle.packets.specs.State.{no_job, relist, release_all, state_in, sweep, take_all, wanted}
use Rattle.packets.specs.declared.Acted.{Acted}
use Rattle.packets.specs.declared.Answer.{Answer}
use Rattle.packets.specs.declared.Answer.TheVariants.{Closed, Done, Refused}
use Rattle.packets.specs.declared.Assignment.{Assignment}
use Rattle.packets.specs.declared.Ending.{Ending}
use Rattle.packets.specs.declared.Job.{Job}
use Rattle.packets.specs.declared.Lists.{Lists}
use Rattle.packets.specs.declared.Packet.{Packet}
use Rattle.packets.specs.declared.RequestList.{RequestList}
use Rattle.packets.specs.declared.Spot.TheVariants.{OnUnit}
use Rattle.packets.specs.State.{Verdict}
use Rattle.packets_queue.proofs.Relist.{listed-is}
use Rattle.packets_queue.specs.Keeping.{Relisted}
use Rattle.packets_queue.specs.Padded.{list_of, padded}
use Rattle.packets_end.specs.Over.{closed_job, ending_of}
use Rattle.lists.proofs.Focus.{ending-packets, focus, focus-close, focus-leaving, focus-return, focus-self, focus-sweep}
use Rattle.lists.specs.Outcomes.{leaves, lists_of, outcome, settled, state_of}

-- ---- refused and accepted calls

module _ (r : Lists) (x : Call) where
  pub refused-is : (n : Refusal) → refusal (state_of r) x ≡ Err n → ◌≡◌ {A = Acted} (record { lists = r; answer = Refused n }) (outcome r x)
  unfolding outcome
  refused-is n e = sym (ap (settled r x) e)

  pub granted-is : refusal (state_of r) x ≡ Ok tt → (next : Lists) (a : Answer) → next ≡ leaves r x → a ≡ answer (state_of r) x
      → ◌≡◌ {A = Acted} (record { lists = next; answer = a }) (outcome r x)
  unfolding outcome
  granted-is e next a p q = rw (p, q) (sym (ap (settled r x) e))

-- ---- a place's number, taken below 16

pub small_is : (j : ℕ) → ltb j 16 ≡ true → j % 16 ≡ j
small_is j t = let h : j < 16 = ltb-true j 16 t in omega arith

-- ---- a channel's number, taken below 16

pub on-is : (channels : List Channel) (c : ℕ) (on : Channel) → on ≡ get_or channels (c % 16) (record { has = None })
    → (ltb c 16 && is_there_of on.has) ≡ configured channels c
unfolding configured fitted_on
on-is channels c on e = by_bool (ltb c 16) (λ t. rw (t, e, small_is c t)) (λ t. rw t)

-- ---- the list that was gone through is the state's

pub relisted-is : (r : Lists) → length r.list.entries ≡ 256 → (j : ℕ) (ps : List Packet) (left : RequestList)
    → Relisted j ps r.list.entries r.list.count left → left ≡ padded (relist j ps (list_of r.list))
relisted-is r full j ps left R =
    R.is ∙ ap (λ (q : List ℕ). padded (relist j ps q)) (listed-is r.list.entries r.list.count (omega (arith, full)))

-- ---- a job's end

module _ (r : Lists) (j : ℕ) (err : Bool) where
  pub end-verdict : (v : Verdict) → v
      ≡ first (not (ltb j 16)) OutOfRange (first (not (is_running (get_or r.jobs (j % 16) no_job).state)) NoJob (Ok tt))
      → refusal (state_of r) (End j err) ≡ v
  unfolding refusal state_in
  end-verdict v e = by_bool (ltb j 16) (λ t. rw (e, t, small_is j t)) (λ t. rw (e, t))

  module _ (size : length r.jobs ≡ 16) (granted : refusal (state_of r) (End j err) ≡ Ok tt) where
    small : j < 16
    unfolding refusal
    small = ltb-true j 16 (not-false (ltb j 16) (passes (not (ltb j 16)) OutOfRange _ granted).0)

    abbrev shut_job : Job
    shut_job = closed_job (job_in r.jobs j) err

    abbrev shut_list : List ℕ
    shut_list = relist j shut_job.packets (list_of r.list)

    shut-is : closed (state_of r) j err ≡ focus (state_of r) j shut_job shut_list
    shut-is =
        ap (λ (s : State). close (sweep s j always cut) j (closing err)) (focus-self (state_of r) j)
        ∙ ap (λ (s : State). close s j (closing err))
        (focus-sweep (state_of r) j (omega (arith, size, small)) (job_in r.jobs j) (list_of r.list) always cut)
        ∙ focus-close (state_of r) j (omega (arith, size, small)) _ _ (closing err)

    pub end_is : (shut : Ending) → shut ≡ ending_of (closed_job (get_or r.jobs (j % 16) no_job) err) r.moving j
        → (left : RequestList) → left ≡ padded (relist j shut.job.packets (list_of r.list))
        → (units : Units) → units ≡ units_from (cond shut.done (release_all r.units.of j) r.units.of)
        → ◌≡◌ {A = Acted}
        (record {
          lists = record {
            channels = r.channels;
            codes = r.codes;
            jobs = set r.jobs (j % 16) shut.job;
            list = left;
            moving = r.moving;
            units = units;
          };
          answer = Closed j shut.leaving;
        })
        (outcome r (End j err))
    unfolding accept answer
    end_is shut e left l units u =
        let k : j % 16 ≡ j = omega (arith, small) in
        granted-is r (End j err) granted _ _
        (rw (l, u, e, k, ending-packets _ shut_job)
        (sym (ap lists_of (ap (return_if_done j) shut-is ∙ focus-return (state_of r) j (omega (arith, size, small)) shut_job shut_list))))
        (rw (e, k) (sym (ap (Closed j) (ap (leaving j) shut-is ∙ focus-leaving (state_of r) j (omega (arith, size, small)) shut_job shut_list))))

-- ---- taking a job

module _ (r : Lists) (j : ℕ) (asg : Assignment) where
  pub take-verdict : (v : Verdict) → v ≡ first (not (ltb j 16 && is_empty (get_or r.jobs (j % 16) no_job).state)) NoPlaceFree (Ok tt)
      → refusal (state_of r) (Take j asg) ≡ v
  unfolding refusal state_in
  take-verdict v e = by_bool (ltb j 16) (λ t. rw (e, t, small_is j t)) (λ t. rw (e, t))

  pub take-is : refusal (state_of r) (Take j asg) ≡ Ok tt
      → (job : Job) → job ≡ fresh_job asg
      → (units : Units) → units ≡ units_from (take_all r.units.of j (wanted asg))
      → ◌≡◌ {A = Acted}
      (record {
        lists = record {
          channels = r.channels;
          codes = r.codes;
          jobs = set r.jobs (j % 16) job;
          list = r.list;
          moving = r.moving;
          units = units;
        };
        answer = Done;
      })
      (outcome r (Take j asg))
  unfolding accept answer
  take-is granted job e units u =
      let k : j % 16 ≡ j = small_is j small in
      granted-is r (Take j asg) granted _ _ (rw (e, u, k)) refl
    where
      small : ltb j 16 ≡ true
      small = unfold refusal in
          and_left (ltb j 16) _ (not-false _ (passes (not (ltb j 16 && is_empty (state_in r.jobs j))) NoPlaceFree (Ok tt) granted).0)

-- ---- marks

module _ (r : Lists) (c u : ℕ) (m : UnitMark) (on : Bool) where
  pub mark-verdict : (has : Fitting) → has ≡ fitted_on r.channels c → (v : Verdict)
      → v ≡ first (not (ltb c 16 && reaches has (OnUnit (record { 0 = u })))) OutOfRange (Ok tt) → refusal (state_of r) (Mark c u m on) ≡ v
  unfolding refusal
  mark-verdict has h v e = rw (e, h)

  pub mark-is : refusal (state_of r) (Mark c u m on) ≡ Ok tt
      → (units : Units) → units ≡ units_from (unit_set r.units.of c u (marked_unit m on (unit_in r.units.of c u)))
      → ◌≡◌ {A = Acted} (record {
        lists = record { channels = r.channels; codes = r.codes; jobs = r.jobs; list = r.list; moving = r.moving; units = units };
        answer = Done;
      }) (outcome r (Mark c u m on))
  unfolding accept answer
  mark-is granted units e = granted-is r (Mark c u m on) granted _ _ (rw e) refl
