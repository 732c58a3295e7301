-- A return's outcome, from what its parts have computed. Assumes nothing.
use Rattle.std.proofs.Common.{None, Ok, Some}
use Prim.Native.Nat.{ℕ, ◌%◌, ◌<◌}
use mathlib.Core.Path.{◌≡◌, refl, sym, ap, ◌∙◌}
use mathlib.Core.Bool.{not, cond, ◌&&◌}
use native.Mathlib.Omega.{arith}
use lib.ListN.{length, get_or, set}
use lib.Dec.{ltb}
use borrow.Author.Tests.{ltb-true, not-false}
use Rattle.numbers.proofs.Tests.{by_bool}
use Rattle.numbers.specs.declared.Refusal.TheVariants.{OutOfRange}
use Rattle.units.specs.State.{unit_in, units_from}
use Rattle.units.specs.declared.Holder.{Holder}
use Rattle.units.specs.declared.Holder.TheVariants.{Free, Returning}
use Rattle.units.specs.declared.Unit.{Unit as UnitState}
use Rattle.units.specs.declared.Units.{Units}
use Rattle.channels.specs.declared.Channel.{Channel}
use Rattle.packets.proofs.Laws.{and_left, and_right, passes}
use Rattle.packets.specs.Rules.{accept, answer, cut, is_at, moves_at, reaches, refusal, return_refusal}
use Rattle.packets.proofs.ByNumber.{Return}
use Rattle.packets.specs.State.{State, carrying, fitted_on, hold, job_in, motion_on, no_job, packet_in}
use Rattle.packets.specs.State.{relist, set_holder, state_in, sweep}
use Rattle.packets.specs.declared.Acted.{Acted}
use Rattle.packets.specs.declared.Answer.TheVariants.{Done}
use Rattle.packets.specs.declared.Job.{Job}
use Rattle.packets.specs.declared.Lists.{Lists}
use Rattle.packets.specs.State.{Motion}
use Rattle.packets.specs.declared.RequestList.{RequestList}
use Rattle.packets.specs.declared.Site.{Site}
use Rattle.packets.specs.declared.Site.TheVariants.{AtUnit}
use Rattle.packets.specs.declared.Spot.TheVariants.{OnUnit}
use Rattle.packets.specs.State.{Verdict}
use Rattle.packets_queue.specs.Padded.{list_of, padded}
use Rattle.lists.proofs.Calls.{granted-is, small_is}
use Rattle.lists.proofs.Focus.{focus, focus-self, focus-sweep}
use Rattle.lists.specs.Outcomes.{lists_of, outcome, state_of}
use Rattle.lists.specs.Parts.{cut_job, holder_after, moves_in}

-- what moves is read from the job's packets
moves-in : (s : State) (j c : ℕ) (a : Site) (m : Motion) → moves_at s j c a m ≡ moves_in (job_in s.jobs j).packets j c a m
unfolding packet_in
moves-in s j c a None = refl
moves-in s j c a (Some (k, p)) = refl

module _ (r : Lists) (j c u : ℕ) where
  pub return-verdict : (on : Channel) → on ≡ get_or r.channels (c % 16) (record { has = None }) → (was : UnitState)
      → was ≡ unit_in r.units.of c u
      → (v : Verdict) → v ≡ return_refusal on.has (get_or r.jobs (j % 16) no_job).state was j c u → refusal (state_of r) (Return j c u) ≡ v
  unfolding refusal state_in fitted_on
  return-verdict on oi was wi v e =
      by_bool (ltb j 16)
      (λ t. by_bool (ltb c 16)
      (λ s. rw (e, oi, wi, small_is j t, small_is c s))
      (λ s. rw (e, t, s)))
      (λ t. rw (e, t))

  module _ (size : length r.jobs ≡ 16) (granted : refusal (state_of r) (Return j c u) ≡ Ok tt) where
    inside : (j < 16) × (c < 16)
    inside = unfold refusal in
        let t = not-false _
        (passes (not (ltb j 16 && (ltb c 16 && reaches (fitted_on r.channels c) (OnUnit (record { 0 = u }))))) OutOfRange _ granted).0 in
        (ltb-true j 16 (and_left (ltb j 16) _ t), ltb-true c 16 (and_left (ltb c 16) _ (and_right (ltb j 16) _ t)))

    abbrev a : Site
    a = AtUnit (record { 0 = u })

    swept-is : sweep (state_of r) j (is_at c a) cut
        ≡ focus (state_of r) j (cut_job (job_in r.jobs j) c a) (relist j (cut_job (job_in r.jobs j) c a).packets (list_of r.list))
    swept-is =
        ap (λ (s : State). sweep s j (is_at c a) cut) (focus-self (state_of r) j)
        ∙ focus-sweep (state_of r) j (omega (arith, size, inside.0)) (job_in r.jobs j) (list_of r.list) (is_at c a) cut

    pub return-is : (changed : Job) → changed ≡ cut_job (get_or r.jobs (j % 16) no_job) c a
        → (left : RequestList) → left ≡ padded (relist j changed.packets (list_of r.list))
        → (holder : Holder) → holder ≡ holder_after (get_or r.jobs (j % 16) no_job).packets j c a
        (get_or r.moving (c % 16) (carrying None)).motion
        → (units : Units) → units ≡ units_from (set_holder r.units.of c a holder)
        → ◌≡◌ {A = Acted}
        (record {
          lists = record {
            channels = r.channels;
            codes = r.codes;
            jobs = set r.jobs (j % 16) changed;
            list = left;
            moving = r.moving;
            units = units;
          };
          answer = Done;
        })
        (outcome r (Return j c u))
    unfolding accept answer
    return-is changed g left l holder o units x =
        let k : j % 16 ≡ j = (let h = inside.0 in omega arith) in
        let n : c % 16 ≡ c = (let h = inside.1 in omega arith) in
        granted-is r (Return j c u) granted _ _
        (rw (l, x, o, g, k, n, ← moves-in (state_of r) j c a (motion_on (state_of r) c))
        (sym (ap (λ (s : State). lists_of (hold s c a (cond (moves_at (state_of r) j c a (motion_on (state_of r) c)) (Returning j) Free))) swept-is)))
        refl
