-- A job that closes, returns its facilities or is taken keeps the invariant. Assumes nothing.
use Rattle.std.proofs.Common.{Some}
use Prim.Native.Nat.{ℕ, ◌<◌}
use mathlib.Core.Path.{◌≡◌, refl, sym, ◌∙◌}
use mathlib.Core.Bool.{Bool, true, false, not, cond, ◌&&◌}
use lib.ListN.{length, set, length-set}
use lib.Dec.{eqb}
use borrow.Author.Tests.{eqb-true, eqb-false}
use Rattle.units.specs.declared.Unit.{Unit as UnitState}
use Rattle.numbers.proofs.Tests.{by_bool, never}
use Rattle.units.specs.State.{assignable, is_free, is_returning, unit_in}
use Rattle.units.specs.declared.Holder.{Holder}
use Rattle.units.specs.declared.Holder.TheVariants.{Free, Held, Returning}
use Rattle.packets.proofs.Inv.{EntryOk, Inv, Owned, OwnedAt, running-alive}
use Rattle.numbers.specs.Elements.{All}
use Rattle.packets.proofs.Laws.{all_both, all-imp}
use Rattle.packets.specs.Rules.{assigned, fresh_job, returned}
use Rattle.packets.specs.State.{State, close, held_by, is_empty, motion_on, packet_in, packet_of, place_of, release}
use Rattle.packets.specs.State.{release_all, set_state, state_in, take_all, take_unit, unit_at, wanted}
use Rattle.packets.proofs.Store.{length-state, packet-fresh, packet-state, size-fresh, size-state, size_in}
use Rattle.packets.proofs.Store.{state-fresh, state-state, unit-release, unit-take}
use Rattle.packets.specs.declared.Assignment.{Assignment}
use Rattle.packets.specs.declared.JobState.{JobState}
use Rattle.packets.specs.declared.JobState.TheVariants.{Empty, Running}
use Rattle.packets.specs.declared.Packet.{Packet}
use Rattle.packets.specs.declared.Site.{Site}
use Rattle.packets.specs.declared.Site.TheVariants.{AtAddress, AtUnit}

-- ---- a job that closes, and one that returns its facilities

abbrev pub NotOf : ℕ → ℕ → Type 0
NotOf j e = eqb (place_of e) j ≡ false

pub held-once : (h : Holder) (i j : ℕ) → held_by h i ≡ true → held_by h j ≡ true → i ≡ j
held-once Free i j a b = never {b = false} a refl
held-once (Held k) i j a b = sym (eqb-true k i a) ∙ eqb-true k j b
held-once (Returning k) i j a b = sym (eqb-true k i a) ∙ eqb-true k j b

pub held-taken : (h : Holder) (i : ℕ) → held_by h i ≡ true → is_free h ≡ false
held-taken Free i a = never {b = false} a refl
held-taken (Held k) i a = refl
held-taken (Returning k) i a = refl

-- a unit that is not being returned is not when its job has returned
pub release-stays : (v : UnitState) (j : ℕ) → is_returning v.holder ≡ false → is_returning (release j v).holder ≡ false
release-stays v j e = by_bool (held_by v.holder j) (λ t. rw t) (λ t. rw t e)

-- nor when a job is taken
pub take-stays : (j : ℕ) (w : Bool) (v : UnitState) → is_returning v.holder ≡ false → is_returning (take_unit j w v).holder ≡ false
take-stays j w v e = by_bool (w && assignable v) (λ t. rw t) (λ t. rw t e)

module _ (s : State) (I : Inv s) (j : ℕ) (inside : j < length s.jobs) (none-listed : All (NotOf j) s.queue) where
  pub close-inv : is_empty (state_in s.jobs j) ≡ false → (t : JobState) → is_empty t ≡ false → Inv (close s j t)
  close-inv was t open' =
      record {
        sizes = λ i a. rw (size-state s.jobs j t i) (I.sizes i (before i a));
        places = length-state s.jobs j t ∙ I.places;
        channels = I.channels;
        single = I.single;
        queued = all-imp (λ (e : ℕ). EntryOk s e × NotOf j e) (EntryOk (close s j t)) entry s.queue
            (all_both (EntryOk s) (NotOf j) s.queue I.queued none-listed);
        motion = λ c i n e. record {
          going = rw (packet-state s.jobs j t i n) (I.motion c i n e).going;
          channel = rw (packet-state s.jobs j t i n) (I.motion c i n e).channel;
          alive = after i (I.motion c i n e).alive;
          owned = rw (packet-state s.jobs j t i n) (I.motion c i n e).owned;
        };
        holders = λ c u i e. after i (I.holders c u i e);
      }
    where
      after : (i : ℕ) → is_empty (state_in s.jobs i) ≡ false → is_empty (state_in (set_state s.jobs j t) i) ≡ false
      after i a = rw (state-state s.jobs j t i inside) (by_bool (eqb i j) (λ e. rw e open') (λ e. rw e a))

      entry : (e : ℕ) → EntryOk s e × NotOf j e → EntryOk (close s j t) e
      entry e k =
          record {
            listed = rw (packet-state s.jobs j t (place_of e) (packet_of e)) k.0.listed;
            running = rw (state-state s.jobs j t (place_of e) inside, k.1) k.0.running;
            owned = rw (packet-state s.jobs j t (place_of e) (packet_of e)) k.0.owned;
            staying = rw (packet-state s.jobs j t (place_of e) (packet_of e)) k.0.staying;
          }

      before : (i : ℕ) → is_empty (state_in (set_state s.jobs j t) i) ≡ false → is_empty (state_in s.jobs i) ≡ false
      before i a =
          let b : is_empty (cond (eqb i j) t (state_in s.jobs i)) ≡ false = rw (state-state s.jobs j t i inside) at a in
          by_bool (eqb i j) (λ e. rw (eqb-true i j e) was) (λ e. rw e at b)

  pub returned-inv : ((c p : ℕ) → motion_on s c ≡ Some (j, p) → ⊥) → Inv (returned s j)
  returned-inv none-moving =
      record {
        sizes = λ i a. rw (size-state s.jobs j Empty i) (I.sizes i (before i a).1);
        places = length-state s.jobs j Empty ∙ I.places;
        channels = I.channels;
        single = I.single;
        queued = all-imp (λ (e : ℕ). EntryOk s e × NotOf j e) (EntryOk (returned s j)) entry s.queue
            (all_both (EntryOk s) (NotOf j) s.queue I.queued none-listed);
        motion = λ c i n e. record {
          going = rw (packet-state s.jobs j Empty i n) (I.motion c i n e).going;
          channel = rw (packet-state s.jobs j Empty i n) (I.motion c i n e).channel;
          alive = after i (apart c i n e) (I.motion c i n e).alive;
          owned = rw (packet-state s.jobs j Empty i n) (keeps i (packet_in s.jobs i n) (apart c i n e) (I.motion c i n e).owned);
        };
        holders = holds;
      }
    where
      apart : (c i n : ℕ) → motion_on s c ≡ Some (i, n) → eqb i j ≡ false
      apart c i n e = by_bool (eqb i j) (λ t. absurd (none-moving c n (rw (eqb-true i j t) at e))) (λ t. t)

      after : (i : ℕ) → eqb i j ≡ false → is_empty (state_in s.jobs i) ≡ false → is_empty (state_in (set_state s.jobs j Empty) i) ≡ false
      after i d a = rw (state-state s.jobs j Empty i inside, d) a

      before : (i : ℕ) → is_empty (state_in (set_state s.jobs j Empty) i) ≡ false → (eqb i j ≡ false) × (is_empty (state_in s.jobs i) ≡ false)
      before i a =
          let b : is_empty (cond (eqb i j) Empty (state_in s.jobs i)) ≡ false = rw (state-state s.jobs j Empty i inside) at a in
          by_bool (eqb i j) (λ e. never {b = true} refl (rw e at b)) (λ e. (e, rw e at b))

      keeps-at : (i c : ℕ) (a : Site) → eqb i j ≡ false → OwnedAt s i c a → OwnedAt (returned s j) i c a
      keeps-at i c (AtUnit u) d o = (
        o.0,
        λ x. rw (unit-release s.units j c u.0)
            (by_bool (held_by (unit_in s.units c u.0).holder j)
            (λ e. absurd (eqb-false i j d (held-once (unit_in s.units c u.0).holder i j (o.1 x) e)))
            (λ e. rw e (o.1 x))),
      )
      keeps-at i c (AtAddress x) d o = (o.0, λ y. never {b = false} y refl)

      keeps : (i : ℕ) (q : Packet) → eqb i j ≡ false → Owned s i q → Owned (returned s j) i q
      keeps i q = keeps-at i q.channel.0 q.at

      stays : (c : ℕ) (a : Site) → is_returning (unit_at s.units c a).holder ≡ false
          → is_returning (unit_at (release_all s.units j) c a).holder ≡ false
      stays c (AtUnit u) e = rw (unit-release s.units j c u.0) (release-stays (unit_in s.units c u.0) j e)
      stays c (AtAddress x) e = e

      entry : (e : ℕ) → EntryOk s e × NotOf j e → EntryOk (returned s j) e
      entry e k =
          record {
            listed = rw (packet-state s.jobs j Empty (place_of e) (packet_of e)) k.0.listed;
            running = rw (state-state s.jobs j Empty (place_of e) inside, k.1) k.0.running;
            owned = rw (packet-state s.jobs j Empty (place_of e) (packet_of e))
                (keeps (place_of e) (packet_in s.jobs (place_of e) (packet_of e)) k.1 k.0.owned);
            staying = rw (packet-state s.jobs j Empty (place_of e) (packet_of e))
                (stays (packet_in s.jobs (place_of e) (packet_of e)).channel.0 (packet_in s.jobs (place_of e) (packet_of e)).at
                k.0.staying);
          }

      holds : (c u i : ℕ) → held_by (unit_in (release_all s.units j) c u).holder i ≡ true → is_empty (state_in (set_state s.jobs j Empty) i) ≡ false
      holds c u i e =
          let b : held_by (cond (held_by (unit_in s.units c u).holder j) Free (unit_in s.units c u).holder) i ≡ true =
          rw (unit-release s.units j c u) at e in
          by_bool (held_by (unit_in s.units c u).holder j)
          (λ t. never {b = false} (rw t at b) refl)
          (λ t.
          let k : held_by (unit_in s.units c u).holder i ≡ true = rw t at b in
          after i
          (by_bool (eqb i j) (λ d. never {b = held_by (unit_in s.units c u).holder j} (rw (eqb-true i j d) at k) t) (λ d. d))
          (I.holders c u i k))

-- ---- a new job

-- a unit that is held is not assignable
pub not-assignable : (v : UnitState) → is_free v.holder ≡ false → assignable v ≡ false
unfolding assignable
not-assignable v h = by_bool (not v.down) (λ t. by_bool (not v.reserved) (λ u. rw (t, u, h)) (λ u. rw (t, u))) (λ t. rw t)

module _ (s : State) (I : Inv s) (j : ℕ) (inside : j < 16) (empty : is_empty (state_in s.jobs j) ≡ true)
    (asg : Assignment) where
  there-is : j < length s.jobs
  there-is = rw I.places inside

  another : (i : ℕ) → is_empty (state_in s.jobs i) ≡ false → eqb i j ≡ false
  another i a = by_bool (eqb i j) (λ e. never {b = is_empty (state_in s.jobs j)} empty (rw (eqb-true i j e) at a)) (λ e. e)

  -- a unit that is held stays as it is
  pub take-held : (c u i : ℕ) → held_by (unit_in s.units c u).holder i ≡ true
      → unit_in (take_all s.units j (wanted asg)) c u ≡ unit_in s.units c u
  take-held c u i e =
      let k = unit-take s.units j (wanted asg) c u in
      rw (k.1, not-assignable (unit_in s.units c u) (held-taken (unit_in s.units c u).holder i e)) (by_bool k.0 (λ t. rw t) (λ t. rw t))

  taken-by : (c u i : ℕ) → held_by (unit_in (take_all s.units j (wanted asg)) c u).holder i ≡ true → (b : Bool) → eqb i j ≡ b
      → is_empty (cond b Running (state_in s.jobs i)) ≡ false
  taken-by c u i e true d = refl
  taken-by c u i e false d =
      let m = unit-take s.units j (wanted asg) c u in
      let b : held_by (take_unit j m.0 (unit_in s.units c u)).holder i ≡ true = rw m.1 at e in
      go (m.0 && assignable (unit_in s.units c u)) b
    where
      go : (w : Bool) → held_by (cond w
          (record { holder = Held j; down = (unit_in s.units c u).down; reserved = (unit_in s.units c u).reserved; interlock = false })
          (unit_in s.units c u)).holder
          i
          ≡ true
          → is_empty (state_in s.jobs i) ≡ false
      go true k = absurd (eqb-false i j d (sym (eqb-true j i k)))
      go false k = I.holders c u i k

  pub assigned-inv : Inv (assigned s j asg)
  assigned-inv =
      record {
        sizes = λ i a. rw (size-fresh s.jobs j asg i there-is) (sized i a);
        places = length-set s.jobs j (fresh_job asg) ∙ I.places;
        channels = I.channels;
        single = I.single;
        queued = all-imp (EntryOk s) (EntryOk (assigned s j asg)) entry s.queue I.queued;
        motion = λ c i n e. record {
          going = rw (packet-fresh s.jobs j asg i there-is n, another i (I.motion c i n e).alive) (I.motion c i n e).going;
          channel = rw (packet-fresh s.jobs j asg i there-is n, another i (I.motion c i n e).alive) (I.motion c i n e).channel;
          alive = rw (state-fresh s.jobs j asg i there-is, another i (I.motion c i n e).alive) (I.motion c i n e).alive;
          owned = rw (packet-fresh s.jobs j asg i there-is n, another i (I.motion c i n e).alive)
              (keeps i (packet_in s.jobs i n) (I.motion c i n e).owned);
        };
        holders = λ c u i e. rw (state-fresh s.jobs j asg i there-is) (taken-by c u i e (eqb i j) refl);
      }
    where
      sized : (i : ℕ) → is_empty (state_in (set s.jobs j (fresh_job asg)) i) ≡ false → cond (eqb i j) 16 (size_in s.jobs i) ≡ 16
      sized i a =
          let b : is_empty (cond (eqb i j) Running (state_in s.jobs i)) ≡ false = rw (state-fresh s.jobs j asg i there-is) at a in
          by_bool (eqb i j) (λ e. rw e) (λ e. rw e (I.sizes i (rw e at b)))

      keeps-at : (i c : ℕ) (a : Site) → OwnedAt s i c a → OwnedAt (assigned s j asg) i c a
      keeps-at i c (AtUnit u) o = (o.0, λ x. rw (take-held c u.0 i (o.1 x)) (o.1 x))
      keeps-at i c (AtAddress x) o = (o.0, λ y. never {b = false} y refl)

      keeps : (i : ℕ) (q : Packet) → Owned s i q → Owned (assigned s j asg) i q
      keeps i q = keeps-at i q.channel.0 q.at

      stays : (c : ℕ) (a : Site) → is_returning (unit_at s.units c a).holder ≡ false
          → is_returning (unit_at (take_all s.units j (wanted asg)) c a).holder ≡ false
      stays c (AtUnit u) e = let k = unit-take s.units j (wanted asg) c u.0 in rw k.1 (take-stays j k.0 (unit_in s.units c u.0) e)
      stays c (AtAddress x) e = e

      entry : (e : ℕ) → EntryOk s e → EntryOk (assigned s j asg) e
      entry e k =
          let d : eqb (place_of e) j ≡ false = another (place_of e) (running-alive (state_in s.jobs (place_of e)) k.running) in
          record {
            listed = rw (packet-fresh s.jobs j asg (place_of e) there-is (packet_of e), d) k.listed;
            running = rw (state-fresh s.jobs j asg (place_of e) there-is, d) k.running;
            owned = rw (packet-fresh s.jobs j asg (place_of e) there-is (packet_of e), d)
                (keeps (place_of e) (packet_in s.jobs (place_of e) (packet_of e)) k.owned);
            staying = rw (packet-fresh s.jobs j asg (place_of e) there-is (packet_of e), d)
                (stays (packet_in s.jobs (place_of e) (packet_of e)).channel.0 (packet_in s.jobs (place_of e) (packet_of e)).at k.staying);
          }
