-- Every call keeps each moving packet on its channel and each listed packet in the list, and the fresh cell has
-- neither. Assumes nothing.
use Rattle.std.proofs.Common.{None, Ok, Some}
use Prim.Native.Nat.{ℕ, zero, suc, ◌≤◌, ◌<◌}
use mathlib.Core.Path.{◌≡◌, refl, sym, ap, ◌∙◌}
use mathlib.Core.Bool.{true, false, ◌&&◌}
use mathlib.Core.List.{List, [], ◌∷◌, ◌++◌}
use native.Mathlib.Omega.{arith}
use lib.ListN.{length, get_or, replicate}
use lib.Dec.{eqb}
use Rattle.numbers.proofs.Stores.{get_d-replicate-same}
use Rattle.units.specs.declared.Unit.{Unit as UnitState}
use Rattle.numbers.proofs.Tests.{by_bool, never}
use Rattle.channels.specs.declared.Channel.{Channel}
use Rattle.packets.proofs.Reaching.{by-history, of-fresh}
use Rattle.packets.specs.History.{Event, Reached, empty_place, fresh}
use Rattle.packets.proofs.Inv.{EntryOk, Inv, running-alive}
use Rattle.packets.specs.State.{freed_at, in_motion, is_packet, State, blank, enqueue, entry_of, is_idle, is_listed}
use Rattle.packets.specs.State.{is_unit, lock, motion_on, move, no_job, packet_in, packet_of, place_of, release_all}
use Rattle.packets.specs.State.{set_lock, state_in, store, sweep, with_status}
use Rattle.packets.proofs.InvUnits.{lock-inv}
use Rattle.packets.proofs.InvStores.{New, enlisted-is, idle-is, motion-move, sweep-inv}
use Rattle.packets.proofs.Laws.{idle-moves, same-motion, eqb-self, find-holds, get_d-replicate-const}
use Rattle.numbers.specs.Elements.{any, find}
use Rattle.packets.specs.Rules.{
  Call,
  Do,
  Take,
  accept,
  aimed,
  always,
  begun,
  closed,
  closing,
  code_for,
  cut,
  enlist,
  failed,
  finished,
  handed_back,
  is_at,
  is_done,
  is_trouble,
  locked,
  marked,
  over,
  packet,
  refusal,
  return_if_done,
  site_of,
  startable,
  submitted,
}
use Rattle.packets.specs.declared.Act.TheVariants as Act'
use Rattle.packets.proofs.Sound.{Sound, assigned-sound, enqueue-sound, move-sound, no_packet, sound-but}
use Rattle.packets.proofs.Sound.{sound-whole, state-sound, store-sound, sweep_sound, units-sound}
use Rattle.packets.proofs.StepSubmit.{Ready, listed-new, ready-fits, ready-inside, ready-store, ready-sweep, stored_at}
use Rattle.packets.proofs.Steps.{busy-of, find-some, over-fits, over-inside, start-at, start_fits, startable-on, reached-inv}
use Rattle.packets.proofs.Store.{alive-in, packet-put, size_in}
use Rattle.packets.proofs.Told.{Submits, assigns-to, completes-on, cut-going, cut-idle, cut-unlisted, ends_of}
use Rattle.packets.proofs.Told.{failed-going, failed-idle, returns_of, starts-on, submits}
use Rattle.packets.proofs.Handing.{returns-inside, unit_site}
use Rattle.packets.specs.declared.How.{How}
use Rattle.packets.specs.declared.Job.{Job}
use Rattle.packets.specs.declared.JobState.TheVariants.{Empty}
use Rattle.packets.specs.declared.Packet.{Packet}
use Rattle.packets.specs.declared.Site.{Site}
use Rattle.packets.specs.declared.Spot.{Spot}
use Rattle.packets.specs.declared.Status.{Status}
use Rattle.packets.specs.declared.Status.TheVariants.{Blank, Ended, InProgress, Listed, Stopping}

failed-moved : (x : Status) → in_motion (failed x) ≡ true → in_motion x ≡ true
failed-moved Blank e = e
failed-moved Listed e = e
failed-moved InProgress e = e
failed-moved Stopping e = e
failed-moved (Ended k) e = e

failed-listed : (x : Status) → is_listed (failed x) ≡ true → is_listed x ≡ true
failed-listed Blank e = e
failed-listed Listed e = refl
failed-listed InProgress e = e
failed-listed Stopping e = e
failed-listed (Ended k) e = e

cut_moved : (x : Status) → in_motion (cut x) ≡ true → in_motion x ≡ true
cut_moved Blank e = e
cut_moved Listed e = e
cut_moved InProgress e = e
cut_moved Stopping e = e
cut_moved (Ended k) e = e

cut-listed : (x : Status) → is_listed (cut x) ≡ true → is_listed x ≡ true
cut-listed x e = never {b = is_listed (cut x)} e (cut-unlisted x)

-- ---- a submission

module _ (s : State) (I : Inv s) (S : Sound s no_packet) (j p f c : ℕ) (w : Spot) (k : Submits s j p f c w) where
  abbrev a : Site
  a = site_of w

  ready-now : Ready s j p
  ready-now = record { small = k.small; running = k.running; idle = k.idle }

  -- what 07 and 23 do last
  pass-sound : (s' : State) → Inv s' → Sound s' no_packet → Ready s' j p → Sound (store s' j p (packet (Ended 0o00) f c a)) no_packet
  pass-sound s' I' S' r =
      let e = stored_at s' I' j p (packet (Ended 0o00) f c a) r in
      sound-whole (store s' j p (packet (Ended 0o00) f c a)) j p
      (store-sound s' j p (sound-but (is_packet j p) S') (packet (Ended 0o00) f c a) (ready-fits s' I' j p r))
      (λ m. never {b = false} (rw e at m) refl) (λ m. never {b = false} (rw e at m) refl)

  pub submit-sound : Sound (submitted s j p f c w) no_packet
  submit-sound =
      by_bool (eqb f 0o07)
      (λ e. rw e (by_bool (locked s c a)
      (λ d. rw d
      (let s₁ = sweep s j (is_at c a) failed in
      let I₁ : Inv s₁ = sweep-inv s I j (is_at c a) failed (ready-inside s j p ready-now) refl failed-going in
      let S₁ : Sound s₁ no_packet = sweep_sound s S j (is_at c a) failed (ready-inside s j p ready-now) refl failed-moved failed-listed in
      let r₁ : Ready s₁ j p = ready-sweep s j p (is_at c a) failed refl failed-idle ready-now in
      pass-sound (lock s₁ c a false) (lock-inv s₁ I₁ c a false) (units-sound s₁ no_packet S₁ (set_lock s.units c a false))
      (record { small = r₁.small; running = r₁.running; idle = r₁.idle })))
      (λ d. rw d (pass-sound s I S ready-now))))
      (λ e. rw e (by_bool (eqb f 0o23)
      (λ d. rw d
      (let t = aimed c w in
      pass-sound (sweep s j t cut) (sweep-inv s I j t cut (ready-inside s j p ready-now) refl cut-going)
      (sweep_sound s S j t cut (ready-inside s j p ready-now) refl cut_moved cut-listed) (ready-sweep s j p t cut refl cut-idle ready-now)))
      (λ d. rw d listed-sound)))
    where
      listed-sound : Sound (enlist s j p f c a) no_packet
      listed-sound =
          let q = packet Listed f c a in
          let s₁ = store s j p q in
          let I₁ : Inv s₁ = ready-store s I j p q ready-now in
          let n : New s₁ j p = listed-new s I j p f c w k in
          let e : packet_in s₁.jobs j p ≡ q = stored_at s I j p q ready-now in
          sound-whole (enqueue s₁ j p) j p
          (enqueue-sound s₁ j p (store-sound s j p (sound-but (is_packet j p) S) q (ready-fits s I j p ready-now)) I₁ n)
          (λ m. never {b = false} (rw e at m) refl)
          (λ m. rw (enlisted-is s₁ I₁ j p n) (last s₁.queue))
        where
          last : (l : List ℕ) → any (eqb (entry_of j p)) (l ++ (entry_of j p ∷ [])) ≡ true
          last [] = rw (eqb-self (entry_of j p))
          last (x ∷ l) = by_bool (eqb (entry_of j p) x) (λ t. rw t) (λ t. rw t (last l))

-- ---- a start

module _ (s : State) (I : Inv s) (S : Sound s no_packet) (c : ℕ) (small : c < 16) (idle : is_idle (motion_on s c) ≡ true) (e : ℕ) (k : EntryOk s e)
    (on : (packet_in s.jobs (place_of e) (packet_of e)).channel.0 ≡ c) where
  begun-sound : Sound (begun s c e) no_packet
  begun-sound =
      let j = place_of e in
      let p = packet_of e in
      let q = with_status (packet_in s.jobs j p) InProgress in
      let s₁ = store s j p q in
      let at : packet_in s₁.jobs j p ≡ q = start-at s I c small e k on in
      sound-whole (move s₁ c (Some (j, p))) j p
      (move-sound s₁ j p (store-sound s j p (sound-but (is_packet j p) S) q (start_fits s I c small e k on)) c (Some (j, p)) (rw I.channels small)
      (λ i n b m. idle-moves i n (sym (idle-is s I c idle) ∙ m)))
      (λ m. rw (at, on) (motion-move s₁ c (Some (j, p)) c (rw I.channels small) ∙ rw (eqb-self c)))
      (λ m. never {b = false} (rw at at m) refl)

-- ---- a completion

module _ (s : State) (I : Inv s) (S : Sound s no_packet) (c : ℕ) (small : c < 16) (j p : ℕ) (is : motion_on s c ≡ Some (j, p)) where
  over-sound : (k : ℕ) → Sound (over s c j p k) no_packet
  over-sound k =
      let q = with_status (packet_in s.jobs j p) (Ended k) in
      let s₁ = move s c None in
      let at : packet_in (over s c j p k).jobs j p ≡ q =
      packet-put s.jobs j p q j p (over-fits s I c small j p is) ∙ rw (eqb-self j, eqb-self p) in
      sound-whole (store s₁ j p q) j p
      (store-sound s₁ j p (move-sound s j p (sound-but (is_packet j p) S) c None (rw I.channels small) other) q (over-fits s I c small j p is))
      (λ m. never {b = false} (rw at at m) refl) (λ m. never {b = false} (rw at at m) refl)
    where
      other : (i n : ℕ) → is_packet j p i n ≡ false → motion_on s c ≡ Some (i, n) → ⊥
      other i n b m =
          let z = same-motion i n j p (sym m ∙ is) in
          never {b = is_packet j p i n} (rw (z.0, z.1, eqb-self j, eqb-self p)) b

  finished-sound : (how : How) → Sound (finished s c how j p) no_packet
  finished-sound how =
      by_bool (is_trouble s.codes how && is_unit (packet_in s.jobs j p).at)
      (λ e. let s₁ = over s c j p (code_for how) in
      let a = (packet_in s.jobs j p).at in
      rw e (units-sound (sweep s₁ j (is_at c a) failed) no_packet
      (sweep_sound s₁ (over-sound (code_for how)) j (is_at c a) failed (over-inside s I c small j p is (code_for how)) refl failed-moved failed-listed)
      (set_lock s.units c a true)))
      (λ e. rw e (over-sound (code_for how)))

return-sound : (s : State) → Sound s no_packet → (j : ℕ) → Sound (return_if_done j s) no_packet
return-sound s S j = by_bool (is_done s j) (λ e. rw e (state-sound s S j Empty (release_all s.units j))) (λ e. rw e S)

-- ---- every call

accept-sound : (s : State) → Inv s → Sound s no_packet → (x : Call) → refusal s x ≡ Ok tt → Sound (accept s x) no_packet
unfolding accept
accept-sound s I S (Take j asg) r = assigned-sound s S j asg (rw I.places (assigns-to s j asg r).0)
accept-sound s I S (Do (Act'.Submit j p f c w)) r = submit-sound s I S j p f c.0 w (submits s j p f c.0 w r)
accept-sound s I S (Do (Act'.Start c)) r =
    let k = starts-on s c.0 r in
    let o = find-some (find (startable s c.0) s.queue) k.2 in
    let z = find-holds (EntryOk s) (startable s c.0) s.queue o.0 I.queued o.1 in
    rw o.1 (begun-sound s I S c.0 k.0 k.1 o.0 z.0 (startable-on s c.0 o.0 z.1))
accept-sound s I S (Do (Act'.Complete c how)) r =
    let k = completes-on s c.0 how r in
    let o = busy-of (motion_on s c.0) k.1 in
    let s₁ = return_if_done o.0 (finished s c.0 how o.0 o.1) in
    rw o.2 (units-sound s₁ no_packet
    (return-sound (finished s c.0 how o.0 o.1) (finished-sound s I S c.0 k.0 o.0 o.1 o.2 how) o.0)
    (freed_at s₁.units c.0 (packet_in s.jobs o.0 o.1).at))
accept-sound s I S (Do (Act'.End j e)) r =
    let h = alive-in s.jobs j (running-alive (state_in s.jobs j) (ends_of s j e r)) in
    return-sound (closed s j e)
    (state-sound (sweep s j always cut) (sweep_sound s S j always cut h refl cut_moved cut-listed) j (closing e) s.units) j
accept-sound s I S (Do (Act'.Return j c u)) r =
    units-sound (sweep s j (is_at c.0 (unit_site u.0)) cut) no_packet
    (sweep_sound s S j (is_at c.0 (unit_site u.0)) cut (returns-inside s I j c.0 u.0 (returns_of s j c.0 u.0 r)) refl
    cut_moved cut-listed)
    (handed_back s j c.0 (unit_site u.0)).units
accept-sound s I S (Do (Act'.Mark c u m on)) r = units-sound s no_packet S (marked s c.0 u.0 m on).units

-- ---- the fresh cell

fresh-sound : (channels : List Channel) (codes : ℕ) (units : List (List UnitState)) → Sound (fresh channels codes units) no_packet
unfolding fresh
fresh-sound channels codes units =
    record {
      mover = λ i n b h. never {b = in_motion (packet_in (replicate 16 empty_place) i n).status} h
          (ap (λ (q : Packet). in_motion q.status) (all-blank i n));
      member = λ i n b h. never {b = is_listed (packet_in (replicate 16 empty_place) i n).status} h
          (ap (λ (q : Packet). is_listed q.status) (all-blank i n));
      sixteen = sizes 16;
    }
  where
    all-blank : (i n : ℕ) → packet_in (replicate 16 empty_place) i n ≡ blank
    all-blank i n = unfold packet_in in
        get_d-replicate-const (λ (k : Job). get_or k.packets n blank) empty_place no_job (get_d-replicate-same 16 n blank) 16 i

    sizes : (m i : ℕ) → size_in (replicate m empty_place) i ≤ 16
    sizes m i = unfold size_in in few m i
      where
        few : (m i : ℕ) → length (get_or (replicate m empty_place) i no_job).packets ≤ 16
        few zero i = omega arith
        few (suc m) zero = omega arith
        few (suc m) (suc i) = few m i

pub reached-sound : (l : List Event) (s : State) → Reached l s → Sound s no_packet
reached-sound =
    by-history (λ s. Sound s no_packet) (of-fresh (λ s. Sound s no_packet) (λ channels codes units free. fresh-sound channels codes units))
    (λ l s r S x e. accept-sound s (reached-inv l s r) S x e)
