-- Each store of the rules into the jobs, the list and the channels keeps the invariant. Assumes nothing.
use Rattle.std.proofs.Common.{None, Some}
use Prim.Native.Nat.{ℕ, ◌≤◌, ◌<◌}
use mathlib.Core.Path.{◌≡◌, refl, sym, ap, ◌∙◌, subst}
use mathlib.Core.Bool.{Bool, true, false, cond, ◌&&◌}
use mathlib.Core.List.{List, [], ◌∷◌, ◌++◌}
use native.Mathlib.Omega.{arith}
use lib.ListN.{length, get_or, set, length-set, length-append}
use lib.Dec.{eqb}
use borrow.Author.Tests.{eqb-true, lt-ltb}
use Rattle.numbers.proofs.Stores.{get_d_set}
use Rattle.numbers.proofs.Tests.{by_bool, never}
use Rattle.packets.proofs.Inv.{Elsewhere, EntryOk, Inv, OkEntry, OkMotion, Owned, Spots, Staying}
use Rattle.packets.proofs.Inv.{listed-busy, motion-busy, requeued, running-alive, single-relist}
use Rattle.packets.specs.State.{in_motion, State, enlisted, enqueue, entry_of, is_busy, is_idle, is_listed, motion_on, move}
use Rattle.packets.specs.State.{packet_in, packet_of, packets_in, place_of, put, restatus_all, state_in, store, sweep}
use Rattle.numbers.specs.Elements.{All}
use Rattle.packets.proofs.Laws.{idle-moves, same-motion, all_append, all-imp, and_left, and_right}
use Rattle.packets.proofs.Once.{few, nodup-snoc}
use Rattle.packets.proofs.Store.{alive-in, busy-in, length-put, length-restatus, packet-put, packet-restatus}
use Rattle.packets.proofs.Store.{size-put, size-restatus, size_in, state-put, state-restatus}
use Rattle.packets.specs.declared.Carrier.{Carrier}
use Rattle.packets.specs.declared.Job.{Job}
use Rattle.packets.specs.State.{Motion}
use Rattle.packets.specs.declared.Packet.{Packet}
use Rattle.packets.specs.declared.Status.{Status}
use Rattle.packets.specs.declared.Status.TheVariants.{Blank}

-- ---- a store

-- one packet of place j, or those that pass a test, are changed, and no other
pub put-elsewhere : (jobs : List Job) (j p : ℕ) (q : Packet) → p < size_in jobs j → Elsewhere j jobs (put jobs j p q)
put-elsewhere jobs j p q fits i n d = packet-put jobs j p q i n fits ∙ rw d

pub restatus-elsewhere : (jobs : List Job) (j : ℕ) (t : Packet → Bool) (f : Status → Status) → j < length jobs → f Blank ≡ Blank
    → Elsewhere j jobs (restatus_all jobs j t f)
restatus-elsewhere jobs j t f inside fb i n d = packet-restatus jobs j t f i n inside fb ∙ rw d

module _ (s : State) (I : Inv s) (j p : ℕ) (q : Packet) (fits : p < size_in s.jobs j)
    (spot : Spots (packet_in s.jobs j p) q)
    (going : (c : ℕ) → motion_on s c ≡ Some (j, p) → in_motion q.status ≡ true) where
  store-spots : (i n : ℕ) → Spots (packet_in s.jobs i n) (packet_in (put s.jobs j p q) i n)
  store-spots i n b =
      rw (packet-put s.jobs j p q i n fits)
      (by_bool (eqb i j && eqb n p)
      (λ e. rw e (let x : i ≡ j = eqb-true i j (and_left (eqb i j) (eqb n p) e) in
      let y : n ≡ p = eqb-true n p (and_right (eqb i j) (eqb n p) e) in rw (x, y) (spot (rw (x, y) at b))))
      (λ e. rw e (refl, refl)))

  store-owned : (i n : ℕ) → is_busy (packet_in s.jobs i n).status ≡ true → Owned s i (packet_in s.jobs i n)
      → Owned s i (packet_in (put s.jobs j p q) i n)
  store-owned i n b o = rw ((store-spots i n b).0, (store-spots i n b).1) o

  store-going : (c i n : ℕ) → motion_on s c ≡ Some (i, n) → in_motion (packet_in (put s.jobs j p q) i n).status ≡ true
  store-going c i n e =
      rw (packet-put s.jobs j p q i n fits)
      (by_bool (eqb i j && eqb n p)
      (λ d. rw d (let x : i ≡ j = eqb-true i j (and_left (eqb i j) (eqb n p) d) in
      let y : n ≡ p = eqb-true n p (and_right (eqb i j) (eqb n p) d) in going c (rw (x, y) at e)))
      (λ d. rw d (I.motion c i n e).going))

  pub store-inv : Inv (store s j p q)
  store-inv =
      record {
        sizes = λ i a. rw (size-put s.jobs j p q i) (I.sizes i (rw (state-put s.jobs j p q i) at a));
        places = length-put s.jobs j p q ∙ I.places;
        channels = I.channels;
        single = single-relist j (packets_in (put s.jobs j p q) j) s.queue I.single;
        queued = requeued s (store s j p q) j (put s.jobs j p q) (put-elsewhere s.jobs j p q fits) entry s.queue I.queued;
        motion = λ c i n e. record {
          going = store-going c i n e;
          channel = (store-spots i n (motion-busy (packet_in s.jobs i n).status (I.motion c i n e).going)).0 ∙ (I.motion c i n e).channel;
          alive = rw (state-put s.jobs j p q i) (I.motion c i n e).alive;
          owned = store-owned i n (motion-busy (packet_in s.jobs i n).status (I.motion c i n e).going) (I.motion c i n e).owned;
        };
        holders = λ c u i e. rw (state-put s.jobs j p q i) (I.holders c u i e);
      }
    where
      entry : (i n : ℕ) → OkEntry s i n → is_listed (packet_in (put s.jobs j p q) i n).status ≡ true → OkEntry (store s j p q) i n
      entry i n k l =
          record {
            listed = l;
            running = rw (state-put s.jobs j p q i) k.running;
            owned = store-owned i n (listed-busy (packet_in s.jobs i n).status k.listed) k.owned;
            staying = let x = store-spots i n (listed-busy (packet_in s.jobs i n).status k.listed) in rw (x.0, x.1) k.staying;
          }

-- ---- a sweep

module _ (s : State) (I : Inv s) (j : ℕ) (t : Packet → Bool) (f : Status → Status) (inside : j < length s.jobs)
    (fb : f Blank ≡ Blank) (going : (x : Status) → in_motion x ≡ true → in_motion (f x) ≡ true) where
  sweep-owned : (i n : ℕ) → Owned s i (packet_in s.jobs i n) → Owned s i (packet_in (restatus_all s.jobs j t f) i n)
  sweep-owned i n o =
      rw (packet-restatus s.jobs j t f i n inside fb) (by_bool (eqb i j) (λ e. rw e o) (λ e. rw e o))

  sweep-staying : (i n : ℕ) → Staying s (packet_in s.jobs i n) → Staying s (packet_in (restatus_all s.jobs j t f) i n)
  sweep-staying i n o =
      rw (packet-restatus s.jobs j t f i n inside fb) (by_bool (eqb i j) (λ e. rw e o) (λ e. rw e o))

  sweep-channel : (i n : ℕ) → (packet_in (restatus_all s.jobs j t f) i n).channel.0 ≡ (packet_in s.jobs i n).channel.0
  sweep-channel i n =
      rw (packet-restatus s.jobs j t f i n inside fb) (by_bool (eqb i j) (λ e. rw e) (λ e. rw e))

  sweep-going : (i n : ℕ) → in_motion (packet_in s.jobs i n).status ≡ true → in_motion (packet_in (restatus_all s.jobs j t f) i n).status ≡ true
  sweep-going i n b =
      rw (packet-restatus s.jobs j t f i n inside fb)
      (by_bool (eqb i j)
      (λ e. rw e (by_bool (t (packet_in s.jobs i n)) (λ d. rw d (going (packet_in s.jobs i n).status b)) (λ d. rw d b)))
      (λ e. rw e b))

  pub sweep-inv : Inv (sweep s j t f)
  sweep-inv =
      record {
        sizes = λ i a. rw (size-restatus s.jobs j t f i) (I.sizes i (rw (state-restatus s.jobs j t f i) at a));
        places = length-restatus s.jobs j t f ∙ I.places;
        channels = I.channels;
        single = single-relist j (packets_in (restatus_all s.jobs j t f) j) s.queue I.single;
        queued = requeued s (sweep s j t f) j (restatus_all s.jobs j t f) (restatus-elsewhere s.jobs j t f inside fb) entry
            s.queue I.queued;
        motion = λ c i n e. record {
          going = sweep-going i n (I.motion c i n e).going;
          channel = sweep-channel i n ∙ (I.motion c i n e).channel;
          alive = rw (state-restatus s.jobs j t f i) (I.motion c i n e).alive;
          owned = sweep-owned i n (I.motion c i n e).owned;
        };
        holders = λ c u i e. rw (state-restatus s.jobs j t f i) (I.holders c u i e);
      }
    where
      entry : (i n : ℕ) → OkEntry s i n → is_listed (packet_in (restatus_all s.jobs j t f) i n).status ≡ true → OkEntry (sweep s j t f) i n
      entry i n k l =
          record {
            listed = l;
            running = rw (state-restatus s.jobs j t f i) k.running;
            owned = sweep-owned i n k.owned;
            staying = sweep-staying i n k.staying;
          }

-- ---- the queue and the channels

-- a packet as an entry of the list
pub entry_place : (j p : ℕ) → p < 16 → place_of (entry_of j p) ≡ j
unfolding place_of entry_of
entry_place j p h = omega arith

pub entry-packet : (j p : ℕ) → p < 16 → packet_of (entry_of j p) ≡ p
unfolding packet_of entry_of
entry-packet j p h = omega arith

-- an entry is one of 256
pub entry-small : (e : ℕ) → place_of e < 16 → e < 256
unfolding place_of
entry-small e h = omega arith

pub entry-fits : (s : State) → Inv s → (e : ℕ) → EntryOk s e → e < 256
entry-fits s I e k =
    entry-small e
    (subst (λ (n : ℕ). place_of e < n) I.places (alive-in s.jobs (place_of e) (running-alive (state_in s.jobs (place_of e)) k.running)))

-- no more than 256 packets are listed
pub room : (s : State) → Inv s → length s.queue ≤ 256
room s I = few 256 s.queue (all-imp (EntryOk s) (λ (e : ℕ). e < 256) (entry-fits s I) s.queue I.queued) I.single

-- a packet of a running job that is not in the list
pub record New (s : State) (j p : ℕ) : Type 0 where
  pub small : p < 16
  pub ok : OkEntry s j p
  pub once : All (λ (e : ℕ). eqb (entry_of j p) e ≡ false) s.queue

-- there is room for it
pub enlisted-is : (s : State) → Inv s → (j p : ℕ) → New s j p → enlisted s.queue (entry_of j p) ≡ s.queue ++ (entry_of j p ∷ [])
unfolding enlisted
enlisted-is s I j p n =
    rw (lt-ltb (length s.queue) 256
    (less (few 256 (s.queue ++ (entry_of j p ∷ [])) below (nodup-snoc eqb s.queue (entry_of j p) I.single n.once))))
  where
    bound : entry_of j p < 256
    bound =
        entry-small (entry_of j p) (rw (entry_place j p n.small)
        (subst (λ (k : ℕ). j < k) I.places (alive-in s.jobs j (running-alive (state_in s.jobs j) n.ok.running))))

    below : All (λ (e : ℕ). e < 256) (s.queue ++ (entry_of j p ∷ []))
    below =
        all_append (λ (e : ℕ). e < 256) s.queue (entry_of j p ∷ [])
        (all-imp (EntryOk s) (λ (e : ℕ). e < 256) (entry-fits s I) s.queue I.queued) (bound, tt)

    less : length (s.queue ++ (entry_of j p ∷ [])) ≤ 256 → length s.queue < 256
    less h = omega (arith, length-append s.queue (entry_of j p ∷ []))

pub enqueue-inv : (s : State) → Inv s → (j p : ℕ) → New s j p → Inv (enqueue s j p)
enqueue-inv s I j p n =
    record {
      sizes = I.sizes;
      places = I.places;
      channels = I.channels;
      holders = I.holders;
      single = rw (enlisted-is s I j p n) (nodup-snoc eqb s.queue (entry_of j p) I.single n.once);
      queued = subst (λ (q : List ℕ). All (EntryOk (enqueue s j p)) q) (sym (enlisted-is s I j p n))
          (all-imp (EntryOk s) (EntryOk (enqueue s j p))
          (λ e x. record { listed = x.listed; running = x.running; owned = x.owned; staying = x.staying })
          (s.queue ++ (entry_of j p ∷ []))
          (all_append (EntryOk s) s.queue (entry_of j p ∷ []) I.queued
          (rw (entry_place j p n.small, entry-packet j p n.small) n.ok, tt)));
      motion = λ c i n e. record {
        going = (I.motion c i n e).going;
        channel = (I.motion c i n e).channel;
        alive = (I.motion c i n e).alive;
        owned = (I.motion c i n e).owned;
      };
    }

-- what a channel moves after a move
pub motion-move : (s : State) (c : ℕ) (m : Motion) (d : ℕ) → c < length s.moving → motion_on (move s c m) d ≡ cond (eqb d c) m (motion_on s d)
motion-move s c m d h =
    ap (λ (x : Carrier). x.motion) (get_d_set s.moving c (record { motion = m }) d (record { motion = None }) h)
    ∙ by_bool (eqb d c) (λ e. rw e) (λ e. rw e)

pub remove : (s : State) → Inv s → (moving : List Carrier) → length moving ≡ 16
    → ((c j p : ℕ) → (get_or moving c (record { motion = None })).motion ≡ Some (j, p) → OkMotion s c j p)
    → Inv (record { channels = s.channels; codes = s.codes; units = s.units; moving = moving; jobs = s.jobs; queue = s.queue })
remove s I moving len f =
    record {
      sizes = I.sizes;
      places = I.places;
      channels = len;
      holders = I.holders;
      single = I.single;
      queued = all-imp (EntryOk s)
          (EntryOk (record { channels = s.channels; codes = s.codes; units = s.units; moving = moving; jobs = s.jobs; queue = s.queue }))
          (λ e x. record { listed = x.listed; running = x.running; owned = x.owned; staying = x.staying }) s.queue I.queued;
      motion = λ c i n e. record { going = (f c i n e).going; channel = (f c i n e).channel; alive = (f c i n e).alive; owned = (f c i n e).owned };
    }

pub idle-inv : (s : State) → Inv s → (c : ℕ) → c < 16 → Inv (move s c None)
idle-inv s I c h =
    remove s I (set s.moving c (record { motion = None })) (length-set s.moving c (record { motion = None }) ∙ I.channels)
    (λ d j p e. let e' : cond (eqb d c) None (motion_on s d) ≡ Some (j, p) = sym (motion-move s c None d (rw I.channels h)) ∙ e in
    by_bool (eqb d c)
    (λ t. absurd (idle-moves j p (rw t at e')))
    (λ t. I.motion d j p (rw t at e')))

pub busy-inv : (s : State) → Inv s → (c j p : ℕ) → c < 16 → OkMotion s c j p → Inv (move s c (Some (j, p)))
busy-inv s I c j p h k =
    remove s I (set s.moving c (record { motion = Some (j, p) })) (length-set s.moving c (record { motion = Some (j, p) }) ∙ I.channels)
    (λ d i n e. let e' : cond (eqb d c) (Some (j, p)) (motion_on s d) ≡ Some (i, n) = sym (motion-move s c (Some (j, p)) d (rw I.channels h)) ∙ e in
    by_bool (eqb d c)
    (λ t. let z = same-motion j p i n (rw t at e') in let w : d ≡ c = eqb-true d c t in
    rw (w, ← z.0, ← z.1) k)
    (λ t. I.motion d i n (rw t at e')))

-- what moves is a packet of the cell
pub idle-is : (s : State) → Inv s → (c : ℕ) → is_idle (motion_on s c) ≡ true → motion_on s c ≡ None
idle-is s I c e = go (motion_on s c) refl
  where
    go : (m : Motion) → motion_on s c ≡ m → motion_on s c ≡ None
    go None q = q
    go (Some (j, p)) q =
        let k = I.motion c j p q in
        let a : j < length s.jobs = alive-in s.jobs j k.alive in
        let b : p < size_in s.jobs j = busy-in s.jobs j p (motion-busy (packet_in s.jobs j p).status k.going) in
        never {b = false} (rw (q, lt-ltb j 16 (omega (arith, I.places)), lt-ltb p 16 (omega (arith, I.sizes j k.alive))) at e) refl
