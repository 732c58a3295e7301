-- A packet that is stopping goes on: no call but the completion on its channel ends it or moves it. Assumes nothing.
use Rattle.std.proofs.Common.{Ok, Some}
use Prim.Native.Nat.{ℕ}
use mathlib.Core.Path.{◌≡◌, refl, sym, ap, subst, ◌∙◌}
use mathlib.Core.Bool.{false, not, ◌&&◌}
use lib.Dec.{eqb}
use borrow.Author.Tests.{eqb-true}
use Rattle.numbers.proofs.Tests.{by_bool, never}
use Rattle.packets.proofs.CodesProof.{status-after}
use Rattle.packets.proofs.Handing.{unit_site}
use Rattle.packets.proofs.Inv.{EntryOk, Inv}
use Rattle.packets.proofs.InvStores.{idle-is}
use Rattle.packets.proofs.Laws.{idle-moves, and_left, and_right, find-holds}
use Rattle.packets.proofs.Movers.{another, at-kept, motion-kept}
use Rattle.packets.proofs.Steps.{busy-of, find-some}
use Rattle.packets.proofs.Told.{assigns-to, completes-on, starts-on, submits}
use Rattle.packets.specs.Codes.{status_after}
use Rattle.numbers.specs.Elements.{find}
use Rattle.packets.specs.Rules.{Call, Do, Take, accept, aimed, is_at, is_trouble, locked, refusal, site_of, startable}
use Rattle.packets.proofs.ByNumber.{Complete, Start}
use Rattle.packets.specs.declared.Act.TheVariants as Act'
use Rattle.packets.specs.State.{State, is_empty, is_packet, is_unit, motion_on, packet_in, packet_of, place_of, state_in}
use Rattle.packets.specs.declared.How.{How}
use Rattle.packets.specs.declared.Status.TheVariants.{Stopping}

-- packet n of place i, stopping on channel c
pub record Goes (s s' : State) (c i n : ℕ) : Type 0 where
  pub moves : motion_on s' c ≡ Some (i, n)
  pub at : (packet_in s'.jobs i n).at ≡ (packet_in s.jobs i n).at
  pub stopping : (packet_in s'.jobs i n).status ≡ Stopping

module _ (s : State) (I : Inv s) (c i n : ℕ) (is : motion_on s c ≡ Some (i, n)) (st : (packet_in s.jobs i n).status ≡ Stopping) where
  -- nothing starts on a busy channel
  no_start : (x : Call) → refusal s x ≡ Ok tt → x ≡ Start c → ⊥
  no_start x r q =
      let r' : refusal s (Start c) ≡ Ok tt = subst (λ (y : Call). refusal s y ≡ Ok tt) q r in
      idle-moves i n (sym (idle-is s I c (starts-on s c r').1) ∙ is)

  stays-stopping : (x : Call) → refusal s x ≡ Ok tt → ((how : How) → x ≡ Complete c how → ⊥) → status_after s x i n ≡ Stopping
  unfolding status_after
  stays-stopping (Take j asg) r o =
      by_bool (eqb i j)
      (λ t. never {b = is_empty (state_in s.jobs j)} (assigns-to s j asg r).1 (rw (eqb-true i j t) at (I.motion c i n is).alive))
      (λ t. rw (t, st))
  stays-stopping (Do (Act'.Submit j p f d w)) r o =
      let k = submits s j p f d.0 w r in
      rw (another s I c i n is j p (record { small = k.small; running = k.running; idle = k.idle }), st)
      (by_bool (eqb i j && (eqb f 0o07 && (locked s d.0 (site_of w) && is_at d.0 (site_of w) (packet_in s.jobs i n)))) (λ t. rw t)
      (λ t. rw t (by_bool (eqb i j && (not (eqb f 0o07) && (eqb f 0o23 && aimed d.0 w (packet_in s.jobs i n)))) (λ v. rw v) (λ v. rw v))))
  stays-stopping (Do (Act'.Start d)) r o =
      let y = find-some (find (startable s d.0) s.queue) (starts-on s d.0 r).2 in
      let l = (find-holds (EntryOk s) (startable s d.0) s.queue y.0 I.queued y.1).0.listed in
      rw y.1
      (by_bool (is_packet (place_of y.0) (packet_of y.0) i n)
      (λ t. let a : i ≡ place_of y.0 = eqb-true i (place_of y.0) (and_left (eqb i (place_of y.0)) _ t) in
      let b : n ≡ packet_of y.0 = eqb-true n (packet_of y.0) (and_right (eqb i (place_of y.0)) _ t) in
      let z : (packet_in s.jobs (place_of y.0) (packet_of y.0)).status ≡ Stopping = rw (a, b) at st in
      never {b = false} (rw z at l) refl)
      (λ t. rw (t, st)))
  stays-stopping (Do (Act'.Complete d how)) r o =
      let y = busy-of (motion_on s d.0) (completes-on s d.0 how r).1 in
      let j = y.0 in
      let p = y.1 in
      let other : is_packet j p i n ≡ false =
      by_bool (is_packet j p i n)
      (λ t.
      let a : i ≡ j = eqb-true i j (and_left (eqb i j) _ t) in
      let b : n ≡ p = eqb-true n p (and_right (eqb i j) _ t) in
      let is' : motion_on s c ≡ Some (j, p) = rw (a, b) at is in
      absurd (o how (ap (λ (e : ℕ). Complete e how) (sym (I.motion d.0 j p y.2).channel ∙ (I.motion c j p is').channel))))
      (λ t. t) in
      rw (y.2, other, st)
      (by_bool (eqb i j && ((is_trouble s.codes how && is_unit (packet_in s.jobs j p).at)
      && is_at d.0 (packet_in s.jobs j p).at (packet_in s.jobs i n)))
      (λ t. rw t) (λ t. rw t))
  stays-stopping (Do (Act'.End j b)) r o = rw st (by_bool (eqb i j) (λ t. rw t) (λ t. rw t))
  stays-stopping (Do (Act'.Return j d v)) r o =
      rw st (by_bool (eqb i j && is_at d.0 (unit_site v.0) (packet_in s.jobs i n)) (λ t. rw t) (λ t. rw t))
  stays-stopping (Do (Act'.Mark d v m on)) r o = st

  pub goes : (x : Call) → refusal s x ≡ Ok tt → ((how : How) → x ≡ Complete c how → ⊥) → Goes s (accept s x) c i n
  goes x r o =
      record {
        moves = motion-kept s I x r c (no_start x r) o ∙ is;
        at = at-kept s I x r c i n is;
        stopping = status-after s I x r i n ∙ stays-stopping x r o;
      }
