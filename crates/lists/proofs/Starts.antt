-- A start's outcome, from what its parts have computed. Assumes nothing.
use Rattle.std.proofs.Common.{None, Ok, Some}
use Prim.Native.Nat.{ℕ, ◌%◌, ◌<◌}
use mathlib.Core.Path.{◌≡◌, refl, sym, ap, ◌∙◌}
use mathlib.Core.Bool.{true, false, not, ◌&&◌}
use mathlib.Core.Option.{Option, none, some}
use native.Mathlib.Omega.{arith}
use lib.ListN.{length, get_or, set}
use lib.Dec.{ltb}
use borrow.Author.Tests.{not-false}
use Rattle.numbers.proofs.Tests.{by_bool, never}
use Rattle.numbers.specs.declared.Refusal.TheVariants.{ChannelBusy, NothingStartable, OutOfRange}
use Rattle.channels.specs.declared.Channel.{Channel}
use Rattle.packets.proofs.Laws.{passes}
use Rattle.numbers.specs.Elements.{find}
use Rattle.packets.specs.Rules.{accept, answer, begins, begun, first, is_none, refusal, startable, startable_on, started}
use Rattle.packets.proofs.ByNumber.{Start}
use Rattle.packets.specs.State.{State, carrying, configured, is_idle, is_there_of, job_in, motion_on, move, no_job}
use Rattle.packets.specs.State.{packet_in, packet_of, place_of, relist, store, with_packets, with_status}
use Rattle.packets.proofs.Told.{configured-in}
use Rattle.packets.specs.declared.Acted.{Acted}
use Rattle.packets.specs.declared.Answer.{Answer}
use Rattle.packets.specs.declared.Carrier.{Carrier}
use Rattle.packets.specs.State.{Found}
use Rattle.packets.specs.declared.Job.{Job}
use Rattle.packets.specs.declared.Job.{Job}
use Rattle.packets.specs.declared.Lists.{Lists}
use Rattle.packets.specs.declared.RequestList.{RequestList}
use Rattle.packets.specs.declared.Status.TheVariants.{InProgress}
use Rattle.packets.specs.State.{Verdict}
use Rattle.packets_queue.specs.Padded.{list_of, padded}
use Rattle.packets_job.specs.Aims.{status_set}
use Rattle.lists.proofs.Calls.{granted-is, on-is}
use Rattle.lists.proofs.Focus.{focus, focus-self, focus-store}
use Rattle.lists.specs.Outcomes.{lists_of, outcome, state_of}
use Rattle.lists.specs.Parts.{entry_in, found_of, is_nowhere, started_at}

-- what was found, as the rules have it
nowhere-is : (o : Option ℕ) → is_nowhere (found_of o) ≡ is_none o
nowhere-is none = refl
nowhere-is (some e) = refl

found-is : (o : Option ℕ) → is_none o ≡ false → o ≡ some (entry_in (found_of o))
found-is none e = never {b = true} refl e
found-is (some x) e = refl

-- the packet of an entry is in progress
begun-is : (s : State) (c e : ℕ) → place_of e < length s.jobs
    → let job = job_in s.jobs (place_of e) in
    let ps = status_set job.packets (packet_of e) InProgress in
    begun s c e ≡ move (focus s (place_of e) (with_packets job ps) (relist (place_of e) ps s.queue)) c (Some (place_of e, packet_of e))
unfolding packet_in
begun-is s c e h =
    let q = with_status (get_or (job_in s.jobs (place_of e)).packets (packet_of e) _) InProgress in
    ap (λ (z : State). move z c (Some (place_of e, packet_of e)))
    (ap (λ (z : State). store z (place_of e) (packet_of e) q) (focus-self s (place_of e))
    ∙ focus-store s (place_of e) h (job_in s.jobs (place_of e)) s.queue (packet_of e) q)

module _ (r : Lists) (c : ℕ) (found : Found) (is : found ≡ found_of (find (startable_on r.units.of r.jobs c) (list_of r.list))) where
  abbrev first_found : Option ℕ
  first_found = find (startable (state_of r) c) (list_of r.list)

  pub start-verdict : (on : Channel) → on ≡ get_or r.channels (c % 16) (record { has = None }) → (v : Verdict)
      → v ≡ first (not (ltb c 16 && is_there_of on.has)) OutOfRange
      (first (not (is_idle (get_or r.moving (c % 16) (carrying None)).motion)) ChannelBusy (first (is_nowhere found) NothingStartable (Ok tt)))
      → refusal (state_of r) (Start c) ≡ v
  unfolding refusal
  start-verdict on oi v e =
      by_bool (configured r.channels c)
      (λ t.
      let h = configured-in r.channels c t in
      let k : c % 16 ≡ c = omega arith in rw (e, on-is r.channels c on oi, is, nowhere-is first_found, k))
      (λ t. rw (e, on-is r.channels c on oi, t))

  module _ (size : length r.jobs ≡ 16) (granted : refusal (state_of r) (Start c) ≡ Ok tt) where
    told : (c < 16) × (is_none first_found ≡ false)
    told = unfold refusal in
        let r₁ = passes (not (configured r.channels c)) OutOfRange _ granted in
        let r₂ = passes (not (is_idle (motion_on (state_of r) c))) ChannelBusy _ r₁.1 in
        (configured-in r.channels c (not-false _ r₁.0), (passes (is_none first_found) NothingStartable (Ok tt) r₂.1).0)

    pub start_is : (e : ℕ) → e ≡ entry_in found → place_of e < 16
        → (changed : Job) → changed ≡ with_packets (get_or r.jobs (place_of e) no_job)
        (status_set (get_or r.jobs (place_of e) no_job).packets (packet_of e) InProgress)
        → (a : Answer) → a ≡ started_at (get_or r.jobs (place_of e) no_job).packets e
        → (left : RequestList) → left ≡ padded (relist (place_of e) changed.packets (list_of r.list))
        → (busy : Carrier) → busy ≡ carrying (Some (place_of e, packet_of e))
        → ◌≡◌ {A = Acted}
        (record {
          lists = record {
            channels = r.channels;
            codes = r.codes;
            jobs = set r.jobs (place_of e) changed;
            list = left;
            moving = set r.moving (c % 16) busy;
            units = r.units;
          };
          answer = a;
        })
        (outcome r (Start c))
    unfolding accept answer packet_in
    start_is e ei small changed p a ai left l busy b =
        let k : c % 16 ≡ c = (let h = told.0 in omega arith) in
        let o : first_found ≡ some e = found-is first_found told.1 ∙ ap some (sym (ei ∙ ap entry_in is)) in
        granted-is r (Start c) granted _ _
        (rw (l, b, p, k)
        (sym (ap (λ (x : Option ℕ). lists_of (started (state_of r) c x)) o ∙ ap lists_of (begun-is (state_of r) c e (omega (arith, size))))))
        (ai ∙ sym (ap (begins (state_of r)) o))
