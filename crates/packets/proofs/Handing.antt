-- One unit gets another holder: what that leaves of the units, and that it keeps the invariant where nothing is listed
-- on the unit and what moves there is of the holder. So a completion gives back a unit that is being returned, and a
-- return frees its unit or lets it wait for what moves there. Assumes nothing.
use Rattle.std.proofs.Common.{None, Some}
use Prim.Native.Nat.{ℕ, ◌<◌}
use mathlib.Core.Path.{◌≡◌, refl, sym, ◌∙◌}
use mathlib.Core.Bool.{true, false, cond, ◌&&◌}
use mathlib.Core.List.{List}
use lib.ListN.{length}
use lib.Dec.{eqb}
use borrow.Author.Tests.{eqb-true}
use Rattle.numbers.proofs.Tests.{by_bool, never}
use Rattle.units.specs.State.{is_free, is_returning, unit_in}
use Rattle.units.specs.declared.Holder.{Holder}
use Rattle.units.specs.declared.Holder.TheVariants.{Free, Held, Returning}
use Rattle.units.specs.declared.Unit.{Unit as UnitState}
use Rattle.packets.proofs.Inv.{EntryOk, Inv, Owned, OwnedAt, running-alive}
use Rattle.packets.proofs.InvJobs.{held-once, held-taken}
use Rattle.packets.proofs.InvStores.{motion-move, sweep-inv}
use Rattle.packets.proofs.Laws.{idle-moves, all_both, all-imp, and_left, and_right, eqb-self}
use Rattle.packets.proofs.Sites.{same-is}
use Rattle.packets.proofs.Store.{alive-in, packet-restatus, unit-keep, unit-set}
use Rattle.packets.proofs.Told.{Returns, cut-going, cut-unlisted}
use Rattle.numbers.specs.Elements.{All}
use Rattle.packets.specs.Rules.{cut, finished, free_if_returning, handed_back, is_at, is_done, is_trouble, moves_at, return_if_done}
use Rattle.packets.specs.State.{
  State,
  freed_at,
  held_by,
  hold,
  is_listed,
  is_unit,
  motion_on,
  move,
  packet_in,
  packet_of,
  place_of,
  restatus_all,
  same,
  set_holder,
  state_in,
  sweep,
  unit_at,
  with_holder,
}
use Rattle.packets.specs.declared.How.{How}
use Rattle.packets.specs.declared.Packet.{Packet}
use Rattle.packets.specs.declared.Site.{Site}
use Rattle.packets.specs.declared.Site.TheVariants.{AtAddress, AtUnit}

-- unit u, as a site
abbrev pub unit_site : ℕ → Site
unit_site u = AtUnit (record { 0 = u })

-- ---- the units then

module _ (units : List (List UnitState)) (c u : ℕ) (h : Holder) (taken : is_free (unit_in units c u).holder ≡ false) where
  pub held-unit : (d w : ℕ) → unit_in (set_holder units c (unit_site u) h) d w
      ≡ cond (eqb d c && eqb w u) (with_holder (unit_in units c u) h) (unit_in units d w)
  held-unit d w = unit-set units c u (with_holder (unit_in units c u) h) d w taken

  -- the unit itself has the new holder, any other its own
  pub held-there : (d : ℕ) (a : Site) → eqb d c && same a (unit_site u) ≡ true → (unit_at (set_holder units c (unit_site u) h) d a).holder ≡ h
  held-there d (AtUnit w) e = rw (held-unit d w.0, e)
  held-there d (AtAddress x) e = never {b = false} (and_right (eqb d c) false e) refl

  pub held-apart : (d : ℕ) (a : Site) → eqb d c && same a (unit_site u) ≡ false → unit_at (set_holder units c (unit_site u) h) d a ≡ unit_at units d a
  held-apart d (AtUnit w) e = rw (held-unit d w.0, e)
  held-apart d (AtAddress x) e = refl

  -- whoever has a unit then had it, if whoever has this one had it
  pub held-before : ((i : ℕ) → held_by h i ≡ true → held_by (unit_in units c u).holder i ≡ true)
      → (d w i : ℕ) → held_by (unit_in (set_holder units c (unit_site u) h) d w).holder i ≡ true → held_by (unit_in units d w).holder i ≡ true
  held-before who d w i e =
      let e' : held_by (cond (eqb d c && eqb w u) (with_holder (unit_in units c u) h) (unit_in units d w)).holder i ≡ true = rw (held-unit d w) at e in
      by_bool (eqb d c && eqb w u)
      (λ t. let x : d ≡ c = eqb-true d c (and_left (eqb d c) (eqb w u) t) in
      let y : w ≡ u = eqb-true w u (and_right (eqb d c) (eqb w u) t) in
      rw (x, y) (who i (rw t at e')))
      (λ t. rw t at e')

-- another holder leaves the interlock of every unit
pub hold-interlock : (units : List (List UnitState)) (c u : ℕ) (h : Holder) (d w : ℕ)
    → (unit_in (set_holder units c (unit_site u) h) d w).interlock ≡ (unit_in units d w).interlock
hold-interlock units c u h d w = unit-keep (λ (v : UnitState). v.interlock) units c u (with_holder (unit_in units c u) h) d w refl

-- one that is being returned is not free
pub returning-taken : (h : Holder) → is_returning h ≡ true → is_free h ≡ false
returning-taken Free e = never {b = false} e refl
returning-taken (Held k) e = refl
returning-taken (Returning k) e = refl

-- ---- the invariant

-- no packet of the list is at the unit
abbrev pub Quiet : State → ℕ → ℕ → Type 0
Quiet s c u = All (λ (e : ℕ). is_at c (unit_site u) (packet_in s.jobs (place_of e) (packet_of e)) ≡ false) s.queue

module _ (s : State) (I : Inv s) (c u : ℕ) (h : Holder) (taken : is_free (unit_in s.units c u).holder ≡ false)
    (who : (i : ℕ) → held_by h i ≡ true → held_by (unit_in s.units c u).holder i ≡ true) (quiet : Quiet s c u)
    (moving : (d j p : ℕ) → motion_on s d ≡ Some (j, p) → is_at c (unit_site u) (packet_in s.jobs j p) ≡ true → held_by h j ≡ true) where
  pub hold-inv : Inv (hold s c (unit_site u) h)
  hold-inv =
      record {
        sizes = I.sizes;
        places = I.places;
        channels = I.channels;
        single = I.single;
        queued = all-imp (λ (e : ℕ). EntryOk s e × (is_at c (unit_site u) (packet_in s.jobs (place_of e) (packet_of e)) ≡ false))
            (EntryOk (hold s c (unit_site u) h)) entry s.queue
            (all_both (EntryOk s) (λ (e : ℕ). is_at c (unit_site u) (packet_in s.jobs (place_of e) (packet_of e)) ≡ false) s.queue
            I.queued quiet);
        motion = λ d i n e. record {
          going = (I.motion d i n e).going;
          channel = (I.motion d i n e).channel;
          alive = (I.motion d i n e).alive;
          owned = (
            (I.motion d i n e).owned.0,
            by_bool (is_at c (unit_site u) (packet_in s.jobs i n))
                (λ t x. rw (held-there s.units c u h taken (packet_in s.jobs i n).channel.0 (packet_in s.jobs i n).at t)
                (moving d i n e t))
                (λ t x. rw (held-apart s.units c u h taken (packet_in s.jobs i n).channel.0 (packet_in s.jobs i n).at t)
                ((I.motion d i n e).owned.1 x)),
          );
        };
        holders = λ d w i e. I.holders d w i (held-before s.units c u h taken who d w i e);
      }
    where
      entry : (e : ℕ) → EntryOk s e × (is_at c (unit_site u) (packet_in s.jobs (place_of e) (packet_of e)) ≡ false)
          → EntryOk (hold s c (unit_site u) h) e
      entry e k =
          let q = packet_in s.jobs (place_of e) (packet_of e) in
          record {
            listed = k.0.listed;
            running = k.0.running;
            owned = (k.0.owned.0, λ x. rw (held-apart s.units c u h taken q.channel.0 q.at k.1) (k.0.owned.1 x));
            staying = rw (held-apart s.units c u h taken q.channel.0 q.at k.1) k.0.staying;
          }

-- ---- a completion gives the unit back

-- it gives the unit to nobody, and leaves its interlock
module _ (units : List (List UnitState)) (c : ℕ) where
  pub back-held : (a : Site) (d w i : ℕ) → held_by (unit_in (freed_at units c a) d w).holder i ≡ true → held_by (unit_in units d w).holder i ≡ true
  back-held (AtAddress x) d w i e = e
  back-held (AtUnit u) d w i e =
      by_bool (is_returning (unit_in units c u.0).holder)
      (λ t. held-before units c u.0 Free (returning-taken (unit_in units c u.0).holder t) (λ i e. never {b = false} e refl) d w i (rw t at e))
      (λ t. rw t at e)

  pub back-interlock : (a : Site) (d w : ℕ) → (unit_in (freed_at units c a) d w).interlock ≡ (unit_in units d w).interlock
  back-interlock (AtAddress x) d w = refl
  back-interlock (AtUnit u) d w =
      by_bool (is_returning (unit_in units c u.0).holder) (λ t. rw t (hold-interlock units c u.0 Free d w)) (λ t. rw t)

-- a return of all facilities leaves what moves
pub return-motion : (s : State) (j d : ℕ) → motion_on (return_if_done j s) d ≡ motion_on s d
return-motion s j d = by_bool (is_done s j) (λ e. rw e) (λ e. rw e)

-- and after a completion nothing moves on its channel
pub completed-idle : (s : State) → Inv s → (c : ℕ) → c < 16 → (how : How) (j p : ℕ) → motion_on (return_if_done j (finished s c how j p)) c ≡ None
completed-idle s I c small how j p =
    let m : motion_on (move s c None) c ≡ None = motion-move s c None c (rw I.channels small) ∙ rw (eqb-self c) in
    return-motion (finished s c how j p) j c
    ∙ by_bool (is_trouble s.codes how && is_unit (packet_in s.jobs j p).at) (λ e. rw e m) (λ e. rw e m)

pub back-inv : (s : State) → Inv s → (c : ℕ) (a : Site) → motion_on s c ≡ None → Inv (free_if_returning s c a)
back-inv s I c (AtAddress x) idle = I
back-inv s I c (AtUnit u) idle =
    by_bool (is_returning (unit_in s.units c u.0).holder)
    (λ t. rw t
    (hold-inv s I c u.0 Free (returning-taken (unit_in s.units c u.0).holder t) (λ i e. never {b = false} e refl) (quiet t)
    (λ d j p e k. absurd (none d j p e (eqb-true _ c (and_left (eqb (packet_in s.jobs j p).channel.0 c) _ k))))))
    (λ t. rw t I)
  where
    none : (d j p : ℕ) → motion_on s d ≡ Some (j, p) → (packet_in s.jobs j p).channel.0 ≡ c → ⊥
    none d j p e on =
        let x : d ≡ c = sym (I.motion d j p e).channel ∙ on in
        let e' : motion_on s c ≡ Some (j, p) = rw x at e in
        idle-moves j p (sym idle ∙ e')

    quiet : is_returning (unit_in s.units c u.0).holder ≡ true → Quiet s c u.0
    quiet t =
        all-imp (EntryOk s) (λ (e : ℕ). is_at c (AtUnit u) (packet_in s.jobs (place_of e) (packet_of e)) ≡ false)
        (λ e k. by_bool (is_at c (AtUnit u) (packet_in s.jobs (place_of e) (packet_of e)))
        (λ x. never {b = is_returning (unit_in s.units c u.0).holder} t
        (let y : (packet_in s.jobs (place_of e) (packet_of e)).channel.0 ≡ c =
        eqb-true _ c (and_left (eqb (packet_in s.jobs (place_of e) (packet_of e)).channel.0 c) _ x) in
        let z : (packet_in s.jobs (place_of e) (packet_of e)).at ≡ AtUnit u =
        same-is (packet_in s.jobs (place_of e) (packet_of e)).at (AtUnit u)
        (and_right (eqb (packet_in s.jobs (place_of e) (packet_of e)).channel.0 c) _ x) in
        rw (y, z) at k.staying))
        (λ x. x))
        s.queue I.queued

-- ---- a return

-- what is at a unit that the job in place j holds is of that job
pub at_held : (s : State) (j c u : ℕ) → held_by (unit_in s.units c u).holder j ≡ true → (i : ℕ) (q : Packet) → Owned s i q
    → is_at c (unit_site u) q ≡ true → i ≡ j
at_held s j c u held i q o t =
    let x : q.channel.0 ≡ c = eqb-true q.channel.0 c (and_left (eqb q.channel.0 c) _ t) in
    let y : q.at ≡ unit_site u = same-is q.at (unit_site u) (and_right (eqb q.channel.0 c) _ t) in
    let k : OwnedAt s i c (unit_site u) = rw (x, y) at o in
    held-once (unit_in s.units c u).holder i j (k.1 refl) held

module _ (s : State) (I : Inv s) (j c u : ℕ) (k : Returns s j c u) where
  pub returns-inside : j < length s.jobs
  returns-inside = alive-in s.jobs j (running-alive (state_in s.jobs j) k.running)

  pub swept-inv : Inv (sweep s j (is_at c (unit_site u)) cut)
  swept-inv = sweep-inv s I j (is_at c (unit_site u)) cut returns-inside refl cut-going

  -- where it was submitted
  pub swept_at : (i n : ℕ) → is_at c (unit_site u) (packet_in (restatus_all s.jobs j (is_at c (unit_site u)) cut) i n)
      ≡ is_at c (unit_site u) (packet_in s.jobs i n)
  swept_at i n =
      rw (packet-restatus s.jobs j (is_at c (unit_site u)) cut i n returns-inside refl) (by_bool (eqb i j) (λ e. rw e) (λ e. rw e))

  quiet : Quiet (sweep s j (is_at c (unit_site u)) cut) c u
  quiet =
      all-imp (EntryOk (sweep s j (is_at c (unit_site u)) cut))
      (λ (e : ℕ). is_at c (unit_site u) (packet_in (restatus_all s.jobs j (is_at c (unit_site u)) cut) (place_of e) (packet_of e)) ≡ false)
      (λ e o. by_bool (is_at c (unit_site u) (packet_in (restatus_all s.jobs j (is_at c (unit_site u)) cut) (place_of e) (packet_of e)))
      (λ t.
      let x : place_of e ≡ j =
      at_held (sweep s j (is_at c (unit_site u)) cut) j c u k.held (place_of e)
      (packet_in (restatus_all s.jobs j (is_at c (unit_site u)) cut) (place_of e) (packet_of e)) o.owned t in
      let t' : is_at c (unit_site u) (packet_in s.jobs (place_of e) (packet_of e)) ≡ true = sym (swept_at (place_of e) (packet_of e)) ∙ t in
      let m : eqb (place_of e) j ≡ true = rw x (eqb-self j) in
      never {b = is_listed (packet_in (restatus_all s.jobs j (is_at c (unit_site u)) cut) (place_of e) (packet_of e)).status} o.listed
      (rw (packet-restatus s.jobs j (is_at c (unit_site u)) cut (place_of e) (packet_of e) returns-inside refl, m, t')
      (cut-unlisted (packet_in s.jobs (place_of e) (packet_of e)).status)))
      (λ t. t))
      (sweep s j (is_at c (unit_site u)) cut).queue swept-inv.queued

  -- what moves on the unit is of the job, and is what the return looks for
  pub moves-there : (d i n : ℕ) → motion_on s d ≡ Some (i, n) → is_at c (unit_site u) (packet_in s.jobs i n) ≡ true
      → (i ≡ j) × (moves_at s j c (unit_site u) (motion_on s c) ≡ true)
  moves-there d i n e t =
      let x : i ≡ j = at_held s j c u k.held i (packet_in s.jobs i n) (I.motion d i n e).owned t in
      let y : d ≡ c = sym (I.motion d i n e).channel ∙ eqb-true _ c (and_left (eqb (packet_in s.jobs i n).channel.0 c) _ t) in
      let e' : motion_on s c ≡ Some (j, n) = rw (x, y) at e in
      (x, rw (e', eqb-self j) (rw x at t))

  -- who holds the unit then
  abbrev pub next : Holder
  next = cond (moves_at s j c (unit_site u) (motion_on s c)) (Returning j) Free

  pub next-held : (i : ℕ) → held_by next i ≡ true → held_by (unit_in s.units c u).holder i ≡ true
  next-held i e =
      by_bool (moves_at s j c (unit_site u) (motion_on s c))
      (λ t. let x : eqb j i ≡ true = rw t at e in rw (sym (eqb-true j i x)) k.held)
      (λ t. never {b = false} (rw t at e) refl)

  pub handed-held : (d w i : ℕ) → held_by (unit_in (handed_back s j c (unit_site u)).units d w).holder i ≡ true
      → held_by (unit_in s.units d w).holder i ≡ true
  handed-held = held-before s.units c u next (held-taken (unit_in s.units c u).holder j k.held) next-held

  pub handed-inv : Inv (handed_back s j c (unit_site u))
  handed-inv =
      hold-inv (sweep s j (is_at c (unit_site u)) cut) swept-inv c u next (held-taken (unit_in s.units c u).holder j k.held) next-held quiet
      (λ d i n e t. let m = moves-there d i n e (sym (swept_at i n) ∙ t) in rw (m.1, m.0) (eqb-self j))

  -- the unit that the return names
  pub handed-to : (unit_in (handed_back s j c (unit_site u)).units c u).holder ≡ next
  handed-to = rw (held-unit s.units c u next (held-taken (unit_in s.units c u).holder j k.held) c u, eqb-self c, eqb-self u)
