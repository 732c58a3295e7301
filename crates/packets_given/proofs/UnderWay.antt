-- WHAT WAS TOLD TO BE UNDER WAY is what moves: a start answers it, no call but a completion on its channel changes it, and
-- that ends it. So the state agrees with what a job has returned by the answers. Assumes nothing.
use Rattle.std.proofs.Common.{Err, None, Ok, Some}
use Prim.Native.Nat.{ℕ}
use mathlib.Core.Path.{◌≡◌, refl, sym, ap, subst, ◌∙◌}
use mathlib.Core.Bool.{true}
use mathlib.Core.List.{List, [], ◌∷◌}
use mathlib.Core.Option.{Option, none, some}
use native.Mathlib.Omega.{arith}
use lib.Dec.{eqb}
use borrow.Author.Tests.{eq-eqb, eqb-false, eqb-true}
use Rattle.numbers.proofs.Stores.{get_d-replicate-same}
use Rattle.numbers.proofs.Tests.{by_bool}
use Rattle.numbers.specs.declared.ChannelNumber.{ChannelNumber}
use Rattle.packets.proofs.ByNumber.{Complete, Start}
use Rattle.packets.proofs.Handing.{completed-idle, unit_site}
use Rattle.packets.proofs.Inv.{EntryOk, Inv}
use Rattle.packets.proofs.InvStores.{motion-move}
use Rattle.packets.proofs.Laws.{eqb-self, find-holds}
use Rattle.packets.proofs.Movers.{at-kept, motion-kept}
use Rattle.packets.proofs.Reaching.{by-calls, event}
use Rattle.packets.proofs.Steps.{busy-of, find-some, reached-inv, start-at, startable-on}
use Rattle.packets.proofs.Told.{completes-on, starts-on}
use Rattle.packets.specs.History.{Begins, Event, Reached, fresh}
use Rattle.numbers.specs.Elements.{find}
use Rattle.packets.specs.Rules.{Call, Do, Take, accept, answer, begins, begun, decided, moves_at, refusal, startable, step}
use Rattle.packets.specs.State.{State, motion_on, packet_in, packet_of, place_of}
use Rattle.packets.specs.declared.Act.TheVariants as Act'
use Rattle.packets.specs.declared.Begun.{Begun}
use Rattle.packets.specs.declared.Carrier.{Carrier}
use Rattle.packets.specs.declared.How.{How}
use Rattle.packets.specs.declared.Packet.{Packet}
use Rattle.packets.specs.State.{Verdict}
use Rattle.packets_given.specs.Given.{UnderWay, is_on, moved_by, under_way, way_after}
use Rattle.packets_given.proofs.Reckoning.{reckoned-append, refused-moves}

-- channel c carries exactly this
abbrev Carries : State → ℕ → Option Begun → Type 0
Carries s c none = motion_on s c ≡ None
Carries s c (some b) = (motion_on s c ≡ Some (b.place, b.packet)) × ((packet_in s.jobs b.place b.packet).at ≡ b.at)

-- ---- one call

module _ (s : State) (I : Inv s) where
  -- nothing starts or completes on the channel
  still : (x : Call) → refusal s x ≡ Ok tt → (c : ℕ) → (x ≡ Start c → ⊥) → ((how : How) → x ≡ Complete c how → ⊥)
      → (way : Option Begun) → Carries s c way → Carries (accept s x) c way
  still x r c n o none h = motion-kept s I x r c n o ∙ h
  still x r c n o (some b) h = (motion-kept s I x r c n o ∙ h.0, at-kept s I x r c b.place b.packet h.0 ∙ h.1)

  -- a start answers what its channel then carries
  starts : (d : ChannelNumber) → refusal s (Do (Act'.Start d)) ≡ Ok tt → (way : Option Begun)
      → Carries (accept s (Do (Act'.Start d))) d.0 (way_after (answer s (Do (Act'.Start d))) way)
  unfolding accept answer
  starts d r way =
      let m = starts-on s d.0 r in
      let y = find-some (find (startable s d.0) s.queue) m.2 in
      let e = y.0 in
      let q = find-holds (EntryOk s) (startable s d.0) s.queue e I.queued y.1 in
      let carries : Carries (begun s d.0 e) d.0 (way_after (begins s (some e)) way) = (
        motion-move s d.0 (Some (place_of e, packet_of e)) d.0 (rw I.channels m.0) ∙ rw (eqb-self d.0),
        ap (λ (o : Packet). o.at) (start-at s I d.0 m.0 e q.0 (startable-on s d.0 e q.1)),
      ) in
      rw y.1 carries

  -- a completion leaves nothing there
  completes-there : (d : ChannelNumber) (how : How) → refusal s (Do (Act'.Complete d how)) ≡ Ok tt → (way : Option Begun)
      → Carries (accept s (Do (Act'.Complete d how))) d.0 (way_after (answer s (Do (Act'.Complete d how))) way)
  unfolding accept answer
  completes-there d how r way =
      let m = completes-on s d.0 how r in
      let y = busy-of (motion_on s d.0) m.1 in
      rw y.2 (completed-idle s I d.0 m.0 how y.0 y.1)

  accept-carries : (t : UnderWay) → ((c : ℕ) → Carries s c (t c)) → (x : Call) → refusal s x ≡ Ok tt
      → (c : ℕ) → Carries (accept s x) c (moved_by t x (answer s x) c)
  unfolding moved_by
  accept-carries t K (Take i asg) r c =
      still (Take i asg) r c (λ q. let y : ◌≡◌ {A = ℕ} 0 1 = cc in omega arith) (λ how q. let y : ◌≡◌ {A = ℕ} 0 1 = cc in omega arith)
      (t c) (K c)
  accept-carries t K (Do (Act'.Submit i p f d w)) r c =
      still (Do (Act'.Submit i p f d w)) r c (λ q. let y : ◌≡◌ {A = ℕ} 0 1 = cc in omega arith)
      (λ how q. let y : ◌≡◌ {A = ℕ} 0 1 = cc in omega arith) (t c) (K c)
  accept-carries t K (Do (Act'.Start d)) r c =
      by_bool (eqb c d.0)
      (λ e. rw (e, eqb-true c d.0 e) (starts d r (t d.0)))
      (λ e. rw e (still (Do (Act'.Start d)) r c (λ q. let y : c ≡ d.0 = cc in eqb-false c d.0 e y)
      (λ how q. let y : ◌≡◌ {A = ℕ} 0 1 = cc in omega arith) (t c) (K c)))
  accept-carries t K (Do (Act'.Complete d how)) r c =
      by_bool (eqb c d.0)
      (λ e. rw (e, eqb-true c d.0 e) (completes-there d how r (t d.0)))
      (λ e. rw e (still (Do (Act'.Complete d how)) r c (λ q. let y : ◌≡◌ {A = ℕ} 0 1 = cc in omega arith)
      (λ how' q. let y : c ≡ d.0 = cc in eqb-false c d.0 e y) (t c) (K c)))
  accept-carries t K (Do (Act'.End i b)) r c =
      still (Do (Act'.End i b)) r c (λ q. let y : ◌≡◌ {A = ℕ} 0 1 = cc in omega arith)
      (λ how q. let y : ◌≡◌ {A = ℕ} 0 1 = cc in omega arith) (t c) (K c)
  accept-carries t K (Do (Act'.Return i d v)) r c =
      still (Do (Act'.Return i d v)) r c (λ q. let y : ◌≡◌ {A = ℕ} 0 1 = cc in omega arith)
      (λ how q. let y : ◌≡◌ {A = ℕ} 0 1 = cc in omega arith) (t c) (K c)
  accept-carries t K (Do (Act'.Mark d v m on)) r c =
      still (Do (Act'.Mark d v m on)) r c (λ q. let y : ◌≡◌ {A = ℕ} 0 1 = cc in omega arith)
      (λ how q. let y : ◌≡◌ {A = ℕ} 0 1 = cc in omega arith) (t c) (K c)

  step-carries : (t : UnderWay) → ((c : ℕ) → Carries s c (t c)) → (x : Call)
      → (c : ℕ) → Carries (step s x).state c (moved_by t x (step s x).answer c)
  step-carries t K x c = unfold step in go (refusal s x) refl
    where
      go : (v : Verdict) → refusal s x ≡ v → Carries (decided s x v).state c (moved_by t x (decided s x v).answer c)
      go (Ok u) r = accept-carries t K x r c
      go (Err n) r = rw (refused-moves t x n c) (K c)

-- ---- over a history

begins-carries : (s : State) → Begins s → (c : ℕ) → Carries s c none
begins-carries s b c = rw b.is (unfold fresh in ap (λ (m : Carrier). m.motion) (get_d-replicate-same 16 c (record { motion = None })))

told-carries : (l : List Event) (s : State) → Reached l s → (c : ℕ) → Carries s c (under_way l c)
told-carries l s r =
    by-calls r.from (λ m t. (c : ℕ) → Carries t c (under_way m c)) (begins-carries r.from r.begins)
    (λ m t d K x c. let I = reached-inv m t (record { from = r.from; begins = r.begins; leads = d }) in
    subst (Carries (step t x).state c) (sym (ap (λ (w : UnderWay). w c) (reckoned-append moved_by (λ k. none) m (event t x ∷ []))))
    (step-carries t I (under_way m) K x c))
    l s r.leads

-- the rule's test of what moves at a unit is what was told
pub told-moves : (l : List Event) (s : State) → Reached l s → (j c u : ℕ)
    → moves_at s j c (unit_site u) (motion_on s c) ≡ is_on j u (under_way l c)
told-moves l s r j c u = go (under_way l c) (told-carries l s r c)
  where
    I : Inv s
    I = reached-inv l s r

    go : (way : Option Begun) → Carries s c way → moves_at s j c (unit_site u) (motion_on s c) ≡ is_on j u way
    go none h = rw h
    go (some b) h =
        rw h.0
        (by_bool (eqb b.place j)
        (λ e. let is : b.place ≡ j = eqb-true b.place j e in
        let q = packet_in s.jobs j b.packet in
        let on : eqb q.channel.0 c ≡ true = eq-eqb q.channel.0 c (rw is at (I.motion c b.place b.packet h.0).channel) in
        let at : q.at ≡ b.at = rw is at h.1 in
        rw (e, on, at))
        (λ e. rw e))
