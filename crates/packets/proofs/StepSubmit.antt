-- A submission keeps the invariant: the packet that is free to be submitted, stored, swept and listed. Assumes nothing.
use Rattle.std.proofs.Common.{Some}
use Prim.Native.Nat.{ℕ, ◌<◌}
use mathlib.Core.Path.{◌≡◌, refl}
use mathlib.Core.Bool.{Bool, true, false}
use mathlib.Core.List.{List}
use lib.ListN.{length}
use lib.Dec.{eqb}
use borrow.Author.Tests.{eqb-true}
use Rattle.numbers.proofs.Tests.{by_bool, never}
use Rattle.packets.proofs.Inv.{EntryOk, Inv, listed-busy, motion-busy, running-alive}
use Rattle.packets.specs.State.{State, entry_of, is_busy, is_listed, is_kept, is_running, lock, motion_on, packet_in, packet_of, packets_in}
use Rattle.packets.specs.State.{place_of, put, relist, state_in, store, sweep}
use Rattle.packets.proofs.InvStores.{New, enqueue-inv, entry-packet, entry_place, store-inv, sweep-inv}
use Rattle.packets.proofs.InvUnits.{lock-inv}
use Rattle.numbers.specs.Elements.{All, keep}
use Rattle.packets.proofs.Laws.{all-imp, all_keep, eqb-self}
use Rattle.packets.specs.Rules.{aimed, cut, failed, is_at, locked, packet, site_of, submitted}
use Rattle.packets.proofs.Store.{alive-in, packet-put, packet-restatus, size_in, state-put, state-restatus}
use Rattle.packets.proofs.Told.{Submits, cut-going, cut-idle, failed-going, failed-idle, owns-unit}
use Rattle.packets.specs.declared.Packet.{Packet}
use Rattle.packets.specs.declared.Spot.{Spot}
use Rattle.packets.specs.declared.Status.{Status}
use Rattle.packets.specs.declared.Status.TheVariants.{Blank, Ended, Listed}

-- the job runs, and its packet p is free to be submitted
pub record Ready (s : State) (j p : ℕ) : Type 0 where
  pub small : p < 16
  pub running : is_running (state_in s.jobs j) ≡ true
  pub idle : is_busy (packet_in s.jobs j p).status ≡ false

pub ready-fits : (s : State) → Inv s → (j p : ℕ) → Ready s j p → p < size_in s.jobs j
ready-fits s I j p r = rw (I.sizes j (running-alive (state_in s.jobs j) r.running)) r.small

pub ready-inside : (s : State) (j p : ℕ) → Ready s j p → j < length s.jobs
ready-inside s j p r = alive-in s.jobs j (running-alive (state_in s.jobs j) r.running)

pub ready-still : (s : State) → Inv s → (j p c : ℕ) → Ready s j p → motion_on s c ≡ Some (j, p) → ⊥
ready-still s I j p c r e =
    never {b = is_busy (packet_in s.jobs j p).status} (motion-busy (packet_in s.jobs j p).status (I.motion c j p e).going) r.idle

pub ready-store : (s : State) → Inv s → (j p : ℕ) (q : Packet) → Ready s j p → Inv (store s j p q)
ready-store s I j p q r =
    store-inv s I j p q (ready-fits s I j p r)
    (λ b. never {b = is_busy (packet_in s.jobs j p).status} b r.idle)
    (λ c e. absurd (ready-still s I j p c r e))

pub ready-sweep : (s : State) (j p : ℕ) (t : Packet → Bool) (f : Status → Status) → f Blank ≡ Blank → ((x : Status) → is_busy x ≡ false → f x ≡ x)
    → Ready s j p → Ready (sweep s j t f) j p
ready-sweep s j p t f fb keeps r =
    record {
      small = r.small;
      running = rw (state-restatus s.jobs j t f j) r.running;
      idle = rw (packet-restatus s.jobs j t f j p (ready-inside s j p r) fb, eqb-self j)
          (by_bool (t (packet_in s.jobs j p))
          (λ e. rw (e, keeps (packet_in s.jobs j p).status r.idle) r.idle)
          (λ e. rw e r.idle));
    }

-- the packet after it is stored
pub stored_at : (s : State) → Inv s → (j p : ℕ) (q : Packet) → Ready s j p → packet_in (put s.jobs j p q) j p ≡ q
stored_at s I j p q r = rw (packet-put s.jobs j p q j p (ready-fits s I j p r), eqb-self j, eqb-self p)

-- a packet that is free to be submitted is not in the list
pub not_listed : (s : State) (j p : ℕ) → p < 16 → is_busy (packet_in s.jobs j p).status ≡ false → (e : ℕ) → EntryOk s e
    → eqb (entry_of j p) e ≡ false
not_listed s j p small idle e k =
    by_bool (eqb (entry_of j p) e)
    (λ t. let x : entry_of j p ≡ e = eqb-true (entry_of j p) e t in
    let l : is_listed (packet_in s.jobs (place_of (entry_of j p)) (packet_of (entry_of j p))).status ≡ true = rw x k.listed in
    let m : is_listed (packet_in s.jobs j p).status ≡ true = rw (entry_place j p small, entry-packet j p small) at l in
    never {b = is_busy (packet_in s.jobs j p).status} (listed-busy (packet_in s.jobs j p).status m) idle)
    (λ t. t)

pub all-relist : (P : ℕ → Type 0) (j : ℕ) (ps : List Packet) (q : List ℕ) → All P q → All P (relist j ps q)
unfolding relist
all-relist P j ps q h =
    all-imp (λ (e : ℕ). P e × (is_kept j ps e ≡ true)) P (λ e k. k.0) (keep (is_kept j ps) q) (all_keep P (is_kept j ps) q h)

-- an ordinary function's packet is new in the list
pub listed-new : (s : State) → Inv s → (j p f c : ℕ) (w : Spot) → Submits s j p f c w → New (store s j p (packet Listed f c (site_of w))) j p
listed-new s I j p f c w k =
    let r : Ready s j p = record { small = k.small; running = k.running; idle = k.idle } in
    record {
      small = k.small;
      ok = record {
        listed = rw (stored_at s I j p (packet Listed f c (site_of w)) r);
        running = rw (state-put s.jobs j p (packet Listed f c (site_of w)) j) k.running;
        owned = rw (stored_at s I j p (packet Listed f c (site_of w)) r) (k.kind, owns-unit s j p f c w k);
        staying = rw (stored_at s I j p (packet Listed f c (site_of w)) r) k.staying;
      };
      once = all-relist (λ (e : ℕ). eqb (entry_of j p) e ≡ false) j (packets_in (put s.jobs j p (packet Listed f c (site_of w))) j) s.queue
          (all-imp (EntryOk s) (λ (e : ℕ). eqb (entry_of j p) e ≡ false) (not_listed s j p k.small k.idle) s.queue I.queued);
    }

pub submit-inv : (s : State) → Inv s → (j p f c : ℕ) (w : Spot) → Submits s j p f c w → Inv (submitted s j p f c w)
submit-inv s I j p f c w k =
    let a = site_of w in
    let r : Ready s j p = record { small = k.small; running = k.running; idle = k.idle } in
    by_bool (eqb f 0o07)
    (λ e. rw e
    (by_bool (locked s c a)
    (λ d. rw d
    (let I₁ = sweep-inv s I j (is_at c a) failed (ready-inside s j p r) refl failed-going in
    let r₁ : Ready (sweep s j (is_at c a) failed) j p = ready-sweep s j p (is_at c a) failed refl failed-idle r in
    ready-store (lock (sweep s j (is_at c a) failed) c a false) (lock-inv (sweep s j (is_at c a) failed) I₁ c a false) j p (packet (Ended 0o00) f c a)
    (record { small = r₁.small; running = r₁.running; idle = r₁.idle })))
    (λ d. rw d (ready-store s I j p (packet (Ended 0o00) f c a) r))))
    (λ e. rw e
    (by_bool (eqb f 0o23)
    (λ d. rw d
    (ready-store (sweep s j (aimed c w) cut)
    (sweep-inv s I j (aimed c w) cut (ready-inside s j p r) refl cut-going) j p (packet (Ended 0o00) f c a)
    (ready-sweep s j p (aimed c w) cut refl cut-idle r)))
    (λ d. rw d
    (enqueue-inv (store s j p (packet Listed f c a)) (ready-store s I j p (packet Listed f c a) r) j p
    (listed-new s I j p f c w k)))))
