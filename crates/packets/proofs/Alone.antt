-- A held unit changes hands only through being free, so nothing of another job starts or moves there: what does was
-- submitted there by the job that holds it, since its taking. Assumes nothing.
use Rattle.std.proofs.Common.{Err, None, Ok, Some}
use Prim.Native.Nat.{ℕ}
use mathlib.Core.Path.{◌≡◌, refl, sym, ap, ◌∙◌}
use mathlib.Core.Bool.{true, false, not, cond, ◌&&◌}
use mathlib.Core.Option.{Option, none, some}
use native.Mathlib.Omega.{arith}
use lib.Dec.{eqb}
use Rattle.units.specs.declared.Unit.{Unit as UnitState}
use Rattle.numbers.proofs.Tests.{by_bool, never}
use Rattle.units.specs.State.{unit_in, marked_unit}
use Rattle.units.specs.declared.Holder.{Holder}
use Rattle.units.specs.declared.Holder.TheVariants.{Free}
use Rattle.packets.specs.Demand.{Holding, Holds, OwnMotion, Seen, its_unit}
use Rattle.packets.proofs.Inv.{EntryOk, Inv, OwnedAt, listed-busy, motion-busy}
use Rattle.packets.proofs.InvJobs.{held-once, take-held}
use Rattle.packets.proofs.InvUnits.{mark-holder}
use Rattle.packets.proofs.Laws.{find-holds}
use Rattle.numbers.specs.Elements.{find}
use Rattle.packets.specs.Rules.{Call, Do, Take, accept, always, answer, begins, begun, closing, completed}
use Rattle.packets.specs.Rules.{cut, decided, finished, is_trouble, locked, marked, refusal}
use Rattle.packets.specs.Rules.{return_if_done, site_of, startable, started, step, submitted}
use Rattle.packets.proofs.ByNumber.{Start}
use Rattle.packets.specs.declared.Act.TheVariants as Act'
use Rattle.packets.proofs.SeenLaws.{SeenOk}
use Rattle.packets.proofs.There.{is-there, unit-held}
use Rattle.packets.specs.State.{State, any_moves, close, held_by, is_busy, is_closing, is_unit, motion_on}
use Rattle.packets.specs.State.{packet_in, packet_of, place_of, state_in, sweep}
use Rattle.packets.proofs.Sites.{lock-holder}
use Rattle.packets.proofs.Steps.{startable-on, step-inv}
use Rattle.packets.proofs.Store.{unit-keep, unit-release}
use Rattle.packets.proofs.Told.{assigns-to, returns_of}
use Rattle.packets.proofs.Handing.{back-held, handed-held}
use Rattle.packets.specs.declared.Answer.TheVariants.{Started}
use Rattle.packets.specs.declared.Begun.{Begun}
use Rattle.packets.specs.declared.How.{How}
use Rattle.packets.specs.State.{Motion}
use Rattle.packets.specs.declared.Spot.{Spot}
use Rattle.packets.specs.State.{Verdict}

-- ---- nothing of another job

-- a held unit changes hands only through being free
abbrev pub Same : State → State → Type 0
Same s s' = (c u i j : ℕ) → held_by (unit_in s.units c u).holder i ≡ true → held_by (unit_in s'.units c u).holder j ≡ true → j ≡ i

pub same_kept : (s s' : State) → ((c u : ℕ) → (unit_in s'.units c u).holder ≡ (unit_in s.units c u).holder) → Same s s'
same_kept s s' e c u i j a b = held-once (unit_in s.units c u).holder j i (rw e at b) a

pub released : (v : Holder) (k j : ℕ) → held_by (cond (held_by v k) Free v) j ≡ true → held_by v j ≡ true
released v k j e = by_bool (held_by v k) (λ t. never {b = false} (rw t at e) refl) (λ t. rw t at e)

pub return-keeps : (s s' : State) (k : ℕ) → ((c u : ℕ) → (unit_in s'.units c u).holder ≡ (unit_in s.units c u).holder) → Same s (return_if_done k s')
return-keeps s s' k e =
    by_bool (is_closing (state_in s'.jobs k) && not (any_moves k s'.moving))
    (λ t. rw t (λ c u i j a b. held-once (unit_in s.units c u).holder j i
    (rw e at (released (unit_in s'.units c u).holder k j (rw (unit-release s'.units k c u) at b))) a))
    (λ t. rw t (same_kept s s' e))

pub submit-keeps : (s : State) (j p f c : ℕ) (w : Spot) (d u : ℕ) → (unit_in (submitted s j p f c w).units d u).holder ≡ (unit_in s.units d u).holder
submit-keeps s j p f c w d u =
    let a = site_of w in
    by_bool (eqb f 0o07)
    (λ e. by_bool (locked s c a) (λ l. rw (e, l) (lock-holder s.units c a false d u)) (λ l. rw (e, l)))
    (λ e. by_bool (eqb f 0o23) (λ l. rw (e, l)) (λ l. rw (e, l)))

pub finish-keeps : (s : State) (c : ℕ) (how : How) (j p d u : ℕ) → (unit_in (finished s c how j p).units d u).holder ≡ (unit_in s.units d u).holder
finish-keeps s c how j p d u =
    by_bool (is_trouble s.codes how && is_unit (packet_in s.jobs j p).at)
    (λ e. rw e (lock-holder s.units c (packet_in s.jobs j p).at true d u))
    (λ e. rw e)

pub accept-same : (s : State) → Inv s → (x : Call) → refusal s x ≡ Ok tt → Same s (accept s x)
unfolding accept
accept-same s I (Take k asg) r =
    λ c u i j a b. held-once (unit_in s.units c u).holder j i
    (rw (take-held s I k (assigns-to s k asg r).0 (assigns-to s k asg r).1 asg c u i a) at b) a
accept-same s I (Do (Act'.Submit k p f c w)) r = same_kept s (submitted s k p f c.0 w) (submit-keeps s k p f c.0 w)
accept-same s I (Do (Act'.Start c)) r = go (find (startable s c.0) s.queue)
  where
    go : (o : Option ℕ) → Same s (started s c.0 o)
    go none = same_kept s s (λ d u. refl)
    go (some e) = same_kept s (begun s c.0 e) (λ d u. refl)
accept-same s I (Do (Act'.Complete c how)) r = go (motion_on s c.0)
  where
    go : (m : Motion) → Same s (completed s c.0 how m)
    go None = same_kept s s (λ d u. refl)
    go (Some (j, p)) =
        λ d u i k a b. return-keeps s (finished s c.0 how j p) j (finish-keeps s c.0 how j p) d u i k a
        (back-held (return_if_done j (finished s c.0 how j p)).units c.0 (packet_in s.jobs j p).at d u k b)
accept-same s I (Do (Act'.End k e)) r = return-keeps s (close (sweep s k always cut) k (closing e)) k (λ c u. refl)
accept-same s I (Do (Act'.Return k c u)) r =
    λ d w i j a b. held-once (unit_in s.units d w).holder j i (handed-held s I k c.0 u.0 (returns_of s k c.0 u.0 r) d w j b) a
accept-same s I (Do (Act'.Mark c u m on)) r =
    same_kept s (marked s c.0 u.0 m on) (λ e w. unit-keep (λ (v : UnitState). v.holder) s.units c.0 u.0
    (marked_unit m on (unit_in s.units c.0 u.0)) e w (mark-holder m on (unit_in s.units c.0 u.0)))

pub step_same : (s : State) → Inv s → (x : Call) → Same s (step s x).state
unfolding step
step_same s I x = go (refusal s x) refl
  where
    go : (n : Verdict) → refusal s x ≡ n → Same s (decided s x n).state
    go (Ok u) e = accept-same s I x e
    go (Err n) e = same_kept s s (λ c u. refl)

-- who moves on the unit holds it
pub mover : (h : Holding) (s : State) → Inv s → (j p : ℕ) → motion_on s h.channel ≡ Some (j, p) → (packet_in s.jobs j p).at ≡ its_unit h
    → held_by (unit_in s.units h.channel h.unit).holder j ≡ true
mover h s I j p e u =
    let k = I.motion h.channel j p e in
    let o : OwnedAt s j h.channel (its_unit h) = rw (k.channel, u) at k.owned in
    o.1 refl

-- the job's packet that is busy on the unit was seen to be submitted there
seen-busy : (h : Holding) (s : State) (t : Seen) → SeenOk h s t → (p : ℕ) → is_busy (packet_in s.jobs h.place p).status ≡ true
    → (packet_in s.jobs h.place p).channel.0 ≡ h.channel → (packet_in s.jobs h.place p).at ≡ its_unit h → h.drum ≡ false → t p ≡ true
seen-busy h s t k p b c u d = let q = packet_in s.jobs h.place p in (k p).1 b ∙ is-there h q.channel.0 q.at d c u

-- a start on the unit is of the job that holds it, and of a packet seen to be submitted there
pub own-start : (h : Holding) (s : State) → Inv s → Holds s h → h.drum ≡ false → (t : Seen) → SeenOk h s t → (x : Call) (b : Begun)
    → x ≡ Start h.channel → (step s x).answer ≡ Started b → b.at ≡ its_unit h → (b.place ≡ h.place) × (t b.packet ≡ true)
unfolding step answer
own-start h s I H d t seen x b e a u = go (refusal s (Start h.channel)) (rw e at a)
  where
    by-entry : (o : Option ℕ) → find (startable s h.channel) s.queue ≡ o → begins s o ≡ Started b
        → (b.place ≡ h.place) × (t b.packet ≡ true)
    by-entry none f g = absurd (let z : ◌≡◌ {A = ℕ} 0 1 = cc in omega arith)
    by-entry (some y) f g =
        let q = packet_in s.jobs (place_of y) (packet_of y) in
        let z : record { place = place_of y; packet = packet_of y; function = q.function; at = q.at } ≡ b = cc in
        let k = find-holds (EntryOk s) (startable s h.channel) s.queue y I.queued f in
        let v : q.at ≡ its_unit h = ap (λ (r : Begun). r.at) z ∙ u in
        let c : q.channel.0 ≡ h.channel = startable-on s h.channel y k.1 in
        let o : OwnedAt s (place_of y) h.channel (its_unit h) = rw (c, v) at k.0.owned in
        let same : place_of y ≡ h.place =
        held-once (unit_in s.units h.channel h.unit).holder (place_of y) h.place (o.1 refl) (unit-held h s H d) in (
          sym (ap (λ (r : Begun). r.place) z) ∙ same,
          ap t (sym (ap (λ (r : Begun). r.packet) z))
              ∙ seen-busy h s t seen (packet_of y) (rw same at (listed-busy q.status k.0.listed)) (rw same at c) (rw same at v) d,
        )

    go : (n : Verdict) → (decided s (Start h.channel) n).answer ≡ Started b → (b.place ≡ h.place) × (t b.packet ≡ true)
    go (Ok u) g = by-entry (find (startable s h.channel) s.queue) refl g
    go (Err n) g = absurd (let z : ◌≡◌ {A = ℕ} 0 1 = cc in omega arith)

-- nothing of another job is moving on the unit
abbrev pub Quiet : Holding → State → Type 0
Quiet h s = (j p : ℕ) → motion_on s h.channel ≡ Some (j, p) → (packet_in s.jobs j p).at ≡ its_unit h → j ≡ h.place

pub quiet-held : (h : Holding) (s : State) → Inv s → Holds s h → h.drum ≡ false → Quiet h s
quiet-held h s I H d j p e u =
    held-once (unit_in s.units h.channel h.unit).holder j h.place (mover h s I j p e u) (unit-held h s H d)

pub quiet-after : (h : Holding) (s : State) → Inv s → Holds s h → h.drum ≡ false → (x : Call) → Quiet h (step s x).state
quiet-after h s I H d x j p e u =
    step_same s I x h.channel h.unit h.place j (unit-held h s H d)
    (mover h (step s x).state (step-inv s I x) j p e u)

-- and what is, was seen to be submitted there
pub own-motion : (h : Holding) (s : State) → Inv s → h.drum ≡ false → (t : Seen) → SeenOk h s t → Quiet h s → OwnMotion h t s
own-motion h s I d t seen q j p e u =
    let same : j ≡ h.place = q j p e u in
    let k = I.motion h.channel j p e in
    (same, seen-busy h s t seen p (rw same at (motion-busy (packet_in s.jobs j p).status k.going)) (rw same at k.channel) (rw same at u) d)
