-- Every packet in progress or stopping moves on its channel, and every listed packet is in the list: each store of
-- the rules keeps it, one packet apart while a call is at work on it. Assumes nothing.
use Rattle.std.proofs.Common.{Some}
use Prim.Native.Nat.{ℕ, ◌≤◌, ◌<◌}
use mathlib.Core.Path.{◌≡◌, refl, ◌∙◌, subst}
use mathlib.Core.Bool.{Bool, true, false, cond, ◌||◌}
use mathlib.Core.List.{List, [], ◌∷◌, ◌++◌}
use native.Mathlib.Omega.{arith}
use lib.ListN.{length}
use lib.Dec.{eqb}
use borrow.Author.Tests.{eqb-true}
use Rattle.units.specs.declared.Unit.{Unit as UnitState}
use Rattle.numbers.proofs.Tests.{by_bool, never}
use Rattle.packets.proofs.Inv.{Inv, listed-busy}
use Rattle.packets.specs.State.{in_motion, State, blank, enqueue, entry_of, is_kept, is_listed, motion_on, move, moves, packet_in}
use Rattle.packets.specs.State.{packets_in, put, relist, restatus, restatus_all, set_state, store, sweep, is_packet}
use Rattle.packets.proofs.InvStores.{New, enlisted-is, entry-packet, entry_place, motion-move}
use Rattle.packets.proofs.Laws.{and_left, and_right}
use Rattle.packets.specs.Lone.{lists}
use Rattle.numbers.specs.Elements.{any, keep}
use Rattle.packets.specs.Rules.{assigned}
use Rattle.packets.proofs.Store.{busy-in, packet-fresh, packet-put, packet-restatus, packet-state}
use Rattle.packets.proofs.Store.{size-fresh, size-put, size-restatus, size-state, size_in}
use Rattle.packets.specs.declared.Assignment.{Assignment}
use Rattle.packets.specs.declared.Job.{Job}
use Rattle.packets.specs.declared.JobState.{JobState}
use Rattle.packets.specs.State.{Motion}
use Rattle.packets.specs.declared.Packet.{Packet}
use Rattle.packets.specs.declared.Status.{Status}
use Rattle.packets.specs.declared.Status.TheVariants.{Blank}

abbrev pub no_packet : ℕ → ℕ → Bool
no_packet i n = false

pub record Sound (s : State) (but : ℕ → ℕ → Bool) : Type 0 where
  pub mover : (i n : ℕ) → but i n ≡ false → in_motion (packet_in s.jobs i n).status ≡ true
      → motion_on s (packet_in s.jobs i n).channel.0 ≡ Some (i, n)
  pub member : (i n : ℕ) → but i n ≡ false → is_listed (packet_in s.jobs i n).status ≡ true → any (eqb (entry_of i n)) s.queue ≡ true
  pub sixteen : (i : ℕ) → size_in s.jobs i ≤ 16

pub sound-but : {s : State} (but : ℕ → ℕ → Bool) → Sound s no_packet → Sound s but
sound-but but S = record { mover = λ i n b. S.mover i n refl; member = λ i n b. S.member i n refl; sixteen = S.sixteen }

keep-any : (f : ℕ → Bool) (e : ℕ) (q : List ℕ) → any (eqb e) q ≡ true → f e ≡ true → any (eqb e) (keep f q) ≡ true
keep-any f e [] h t = h
keep-any f e (x ∷ q) h t =
    by_bool (eqb e x)
    (λ d. let y : e ≡ x = eqb-true e x d in let g : f x ≡ true = rw y at t in rw (g, d))
    (λ d. let h' : any (eqb e) q ≡ true = rw d at h in
    by_bool (f x) (λ g. rw (g, d) (keep-any f e q h' t)) (λ g. rw g (keep-any f e q h' t)))

-- what is listed after a change stays in the list
stays : (j : ℕ) (jobs : List Job) (q : List ℕ) (i n : ℕ) → n < 16 → is_listed (packet_in jobs i n).status ≡ true → any (eqb (entry_of i n)) q ≡ true
    → any (eqb (entry_of i n)) (relist j (packets_in jobs j) q) ≡ true
unfolding relist packet_in
stays j jobs q i n small l m =
    keep-any (is_kept j (packets_in jobs j)) (entry_of i n) q m
    (rw (entry_place i n small, entry-packet i n small)
    (by_bool (eqb i j) (λ t. let p : i ≡ j = eqb-true i j t in rw t (rw p at l)) (λ t. rw t)))

any_last : (e : ℕ) (q : List ℕ) (x : ℕ) → any (eqb e) (q ++ (x ∷ [])) ≡ any (eqb e) q || eqb e x
any_last e [] x = by_bool (eqb e x) (λ t. rw t) (λ t. rw t)
any_last e (y ∷ q) x = by_bool (eqb e y) (λ t. rw t) (λ t. rw (t, any_last e q x))

module _ (s : State) (j p : ℕ) (S : Sound s (is_packet j p)) where
  -- one packet is stored
  pub store-sound : (q : Packet) → p < size_in s.jobs j → Sound (store s j p q) (is_packet j p)
  store-sound q fits =
      record {
        mover = λ i n b h. rw (same i n b) (S.mover i n b (rw (same i n b) at h));
        member = λ i n b h. stays j (put s.jobs j p q) s.queue i n (small i n h) h (S.member i n b (rw (same i n b) at h));
        sixteen = λ i. rw (size-put s.jobs j p q i) (S.sixteen i);
      }
    where
      same : (i n : ℕ) → is_packet j p i n ≡ false → packet_in (put s.jobs j p q) i n ≡ packet_in s.jobs i n
      same i n b = packet-put s.jobs j p q i n fits ∙ rw b

      small : (i n : ℕ) → is_listed (packet_in (put s.jobs j p q) i n).status ≡ true → n < 16
      small i n h =
          let k : n < size_in (put s.jobs j p q) i =
          busy-in (put s.jobs j p q) i n (listed-busy (packet_in (put s.jobs j p q) i n).status h) in
          omega (arith, size-put s.jobs j p q i, S.sixteen i)

  -- what moves on a channel
  pub move-sound : (c : ℕ) (m : Motion) → c < length s.moving → ((i n : ℕ) → is_packet j p i n ≡ false → motion_on s c ≡ Some (i, n) → ⊥)
      → Sound (move s c m) (is_packet j p)
  move-sound c m h old =
      record {
        mover = λ i n b g. motion-move s c m (packet_in s.jobs i n).channel.0 h
            ∙ by_bool (eqb (packet_in s.jobs i n).channel.0 c)
            (λ t. absurd (old i n b
            (subst (λ (d : ℕ). motion_on s d ≡ Some (i, n)) (eqb-true (packet_in s.jobs i n).channel.0 c t) (S.mover i n b g))))
            (λ t. rw t (S.mover i n b g));
        member = S.member;
        sixteen = S.sixteen;
      }

  -- one packet more in the list
  pub enqueue-sound : Inv s → New s j p → Sound (enqueue s j p) (is_packet j p)
  enqueue-sound I n =
      record {
        mover = S.mover;
        member = λ i m b g. rw (enlisted-is s I j p n, any_last (entry_of i m) s.queue (entry_of j p), S.member i m b g);
        sixteen = S.sixteen;
      }

  -- the packet itself, when the call has done with it
  pub sound-whole : (in_motion (packet_in s.jobs j p).status ≡ true → motion_on s (packet_in s.jobs j p).channel.0 ≡ Some (j, p))
      → (is_listed (packet_in s.jobs j p).status ≡ true → any (eqb (entry_of j p)) s.queue ≡ true) → Sound s no_packet
  sound-whole moves lists =
      record {
        mover = λ i n b g. by_bool (is_packet j p i n)
            (λ t. let x : i ≡ j = eqb-true i j (and_left (eqb i j) (eqb n p) t) in
            let y : n ≡ p = eqb-true n p (and_right (eqb i j) (eqb n p) t) in
            rw (x, y) (moves (rw (x, y) at g)))
            (λ t. S.mover i n t g);
        member = λ i n b g. by_bool (is_packet j p i n)
            (λ t. let x : i ≡ j = eqb-true i j (and_left (eqb i j) (eqb n p) t) in
            let y : n ≡ p = eqb-true n p (and_right (eqb i j) (eqb n p) t) in
            rw (x, y) (lists (rw (x, y) at g)))
            (λ t. S.member i n t g);
        sixteen = S.sixteen;
      }

-- the statuses of a job's packets change, none to listed or in motion
module _ (s : State) (S : Sound s no_packet) (j : ℕ) (t : Packet → Bool) (f : Status → Status) (inside : j < length s.jobs) (fb : f Blank ≡ Blank)
    (moved : (x : Status) → in_motion (f x) ≡ true → in_motion x ≡ true) (listed : (x : Status) → is_listed (f x) ≡ true → is_listed x ≡ true) where
  read : (i n : ℕ) → packet_in (restatus_all s.jobs j t f) i n ≡ cond (eqb i j) (restatus t f (packet_in s.jobs i n)) (packet_in s.jobs i n)
  read i n = packet-restatus s.jobs j t f i n inside fb

  back : (P : Status → Bool) → ((x : Status) → P (f x) ≡ true → P x ≡ true) → (i n : ℕ)
      → P (packet_in (restatus_all s.jobs j t f) i n).status ≡ true → P (packet_in s.jobs i n).status ≡ true
  back P k i n h =
      let h' : P (cond (eqb i j) (restatus t f (packet_in s.jobs i n)) (packet_in s.jobs i n)).status ≡ true = rw (read i n) at h in
      by_bool (eqb i j)
      (λ d. by_bool (t (packet_in s.jobs i n))
      (λ e. k (packet_in s.jobs i n).status (rw (d, e) at h'))
      (λ e. rw (d, e) at h'))
      (λ d. rw d at h')

  channel : (i n : ℕ) → (packet_in (restatus_all s.jobs j t f) i n).channel.0 ≡ (packet_in s.jobs i n).channel.0
  channel i n = rw (read i n) (by_bool (eqb i j) (λ d. rw d) (λ d. rw d))

  pub sweep_sound : Sound (sweep s j t f) no_packet
  sweep_sound =
      record {
        mover = λ i n b h. rw (channel i n) (S.mover i n b (back in_motion moved i n h));
        member = λ i n b h. stays j (restatus_all s.jobs j t f) s.queue i n (small i n h) h (S.member i n b (back is_listed listed i n h));
        sixteen = λ i. rw (size-restatus s.jobs j t f i) (S.sixteen i);
      }
    where
      small : (i n : ℕ) → is_listed (packet_in (restatus_all s.jobs j t f) i n).status ≡ true → n < 16
      small i n h =
          let k : n < size_in (restatus_all s.jobs j t f) i =
          busy-in (restatus_all s.jobs j t f) i n (listed-busy (packet_in (restatus_all s.jobs j t f) i n).status h) in
          omega (arith, size-restatus s.jobs j t f i, S.sixteen i)

-- a job's state, and the units, say nothing of packets
pub state-sound : (s : State) → Sound s no_packet → (j : ℕ) (t : JobState) (units : List (List UnitState))
    → Sound
    (record { channels = s.channels; codes = s.codes; units = units; moving = s.moving; jobs = set_state s.jobs j t; queue = s.queue })
    no_packet
state-sound s S j t units =
    record {
      mover = λ i n b h. rw (packet-state s.jobs j t i n) (S.mover i n b (rw (packet-state s.jobs j t i n) at h));
      member = λ i n b h. S.member i n b (rw (packet-state s.jobs j t i n) at h);
      sixteen = λ i. rw (size-state s.jobs j t i) (S.sixteen i);
    }

pub units-sound : (s : State) (but : ℕ → ℕ → Bool) → Sound s but → (units : List (List UnitState))
    → Sound (record { channels = s.channels; codes = s.codes; units = units; moving = s.moving; jobs = s.jobs; queue = s.queue }) but
units-sound s but S units = record { mover = S.mover; member = S.member; sixteen = S.sixteen }

-- a job is taken: its packets are blank
pub assigned-sound : (s : State) → Sound s no_packet → (j : ℕ) (asg : Assignment) → j < length s.jobs → Sound (assigned s j asg) no_packet
assigned-sound s S j asg inside =
    record {
      mover = λ i n b h. let r = read i n in
          by_bool (eqb i j)
          (λ d. never {b = false} (rw (r, d) at h) refl)
          (λ d. let e : packet_in (assigned s j asg).jobs i n ≡ packet_in s.jobs i n = r ∙ rw d in rw e (S.mover i n b (rw e at h)));
      member = λ i n b h. let r = read i n in
          by_bool (eqb i j)
          (λ d. never {b = false} (rw (r, d) at h) refl)
          (λ d. let e : packet_in (assigned s j asg).jobs i n ≡ packet_in s.jobs i n = r ∙ rw d in S.member i n b (rw e at h));
      sixteen = λ i. rw (size-fresh s.jobs j asg i inside) (by_bool (eqb i j) (λ d. rw d (omega arith)) (λ d. rw d (S.sixteen i)));
    }
  where
    read : (i n : ℕ) → packet_in (assigned s j asg).jobs i n ≡ cond (eqb i j) blank (packet_in s.jobs i n)
    read i n = packet-fresh s.jobs j asg i inside n
