-- Demand 3 holds: the holding and its lone unit begin alike at the taking, and stay alike through the stretch.
-- Assumes nothing.
use Rattle.std.proofs.Common.{Err, None, Ok, Some}
use Prim.Native.Nat.{ℕ, ◌<◌}
use mathlib.Core.Path.{◌≡◌, refl, sym, ap, ◌∙◌}
use mathlib.Core.Bool.{Bool, true, false, not, cond, ◌&&◌}
use mathlib.Core.List.{List, [], ◌∷◌, ◌++◌, map}
use mathlib.Core.Option.{Option, none}
use lib.Dec.{eqb}
use borrow.Author.Tests.{eqb-true}
use Rattle.units.specs.declared.Unit.{Unit as UnitState}
use Rattle.numbers.proofs.Tests.{by_bool, never}
use Rattle.units.specs.State.{assignable, is_returning, unit_in}
use Rattle.units.specs.declared.Holder.TheVariants.{Held}
use Rattle.packets.proofs.Acts.{Follows, accepted-follows, follows-none}
use Rattle.packets.proofs.Alone.{Quiet, mover, own-motion, own-start, quiet-after, quiet-held}
use Rattle.packets.specs.Demand.{Holding, Holds, IsolatedAlways, OwnStarts, Seen, Stretch, acting, as_lone}
use Rattle.packets.specs.Demand.{its_unit, none_seen, noted, seen_after, starts_in, there}
use Rattle.packets.proofs.Inv.{EntryOk, Inv, running-alive}
use Rattle.packets.proofs.Laws.{all-imp, and_left, and_right, eqb-self, keep-none}
use Rattle.packets.specs.Lone.{Lone, is_at_rest, lone_run, lone_starts, lone_takes_all, new_lone, unused}
use Rattle.packets.proofs.LoneLaws.{run-append, starts-append, takes-append}
use Rattle.packets.specs.Rules.{Call, Take, accept, assigned, decided, refusal, step}
use Rattle.packets.proofs.SeenLaws.{SeenOk, accept-seen, lone-refused, noted-refused}
use Rattle.packets.proofs.Sim.{Like, Sim, lock_there, moving_there, num, on, return_there}
use Rattle.packets.proofs.Stays.{Configured, step-has}
use Rattle.packets.specs.History.{Event, Leads, Reached}
use Rattle.packets.proofs.Reaching.{event, reached-append, reached-more, step-accepted}
use Rattle.packets.proofs.There.{is-there, there-unit, unit-held}
use Rattle.packets.proofs.InvJobs.{held-once}
use Rattle.packets.proofs.Waiting.{Waits, reached-waits}
use Rattle.packets.specs.State.{State, blank, held_by, is_empty, is_running, motion_on, packet_in, place_of, state_in, take_all, wanted}
use Rattle.packets.proofs.Steps.{reached-inv, step-inv}
use Rattle.packets.proofs.Store.{packet-fresh, state-fresh, unit-take}
use Rattle.packets.proofs.Told.{assigns-to}
use Rattle.packets.specs.declared.Answer.{Answer}
use Rattle.packets.specs.declared.Answer.TheVariants.{Refused}
use Rattle.packets.specs.declared.Assignment.{Assignment}
use Rattle.packets.specs.declared.JobState.{JobState}
use Rattle.packets.specs.declared.JobState.TheVariants.{Running}
use Rattle.packets.specs.State.{Motion}
use Rattle.packets.specs.State.{Verdict}

-- ---- a stretch

-- what one call of the cell is to the lone unit, and where packets are then
pub record Next (codes : ℕ) (h : Holding) (l : Lone) (t : Seen) (x : Call) (r : Answer) (s : State) : Type 0 where
  pub lone : Follows codes h l (as_lone h t x r) r s
  pub seen : SeenOk h s (noted h t x r)

pub next : (h : Holding) (s : State) → Inv s → Holds s h → (l : Lone) → Sim h s l → (t : Seen) → SeenOk h s t → (x : Call)
    → Next s.codes h l t x (step s x).answer (step s x).state
unfolding step
next h s I H l S t k x = go (refusal s x) refl
  where
    go : (n : Verdict) → refusal s x ≡ n → Next s.codes h l t x (decided s x n).answer (decided s x n).state
    go (Ok u) e = record { lone = accepted-follows h s I H l S t k x e; seen = accept-seen h s I H t k x e }
    go (Err n) e =
        record {
          lone = rw (lone-refused h t x n) (follows-none s.codes h l (Refused n) s S);
          seen = rw (noted-refused h t x n) k;
        }

pub record Through (codes : ℕ) (h : Holding) (l : Lone) (t : Seen) (during : List Event) (end : State) : Type 0 where
  pub inv : Inv end
  pub taken : lone_takes_all codes h.drum l (acting h t during) ≡ true
  pub starts : starts_in h t during ≡ lone_starts codes h.drum l (acting h t during)
  pub sim : Sim h end (lone_run codes h.drum l (acting h t during))
  pub seen : SeenOk h end (seen_after h t during)
  pub own : h.drum ≡ false → OwnStarts h t during
  pub quiet : h.drum ≡ false → Quiet h end

pub through : (codes : ℕ) (h : Holding) (s : State) → s.codes ≡ codes → Inv s → (l : Lone) → Sim h s l → (t : Seen) → SeenOk h s t
    → (h.drum ≡ false → Quiet h s)
    → (during : List Event) (end : State) → Leads s during end → Stretch h s during → Through codes h l t during end
unfolding starts_in acting seen_after lone_starts lone_takes_all lone_run
through codes h s same I l S t k q [] end d H =
    record { inv = rw d I; taken = refl; starts = refl; sim = rw d S; seen = rw d k; own = λ z. tt; quiet = rw d q }
through codes h s same I l S t k q (e ∷ during) end d H =
    let x = e.call in
    let a = e.answer in
    let s' = (step s x).state in
    let t' = noted h t x a in
    let xs = as_lone h t x a in
    let l' = lone_run codes h.drum l xs in
    let rest = acting h t' during in
    let y : Next codes h l t x a s' = rw (d.0, sym same) (next h s I H.0 l S t k x) in
    let same' : s'.codes ≡ codes = ap (λ (z : Configured). z.codes) (step-has s x) ∙ same in
    let q' : h.drum ≡ false → Quiet h s' = λ z. quiet-after h s I H.0 z x in
    let r : Through codes h l' t' during end =
    through codes h s' same' (step-inv s I x) l' y.lone.sim t' y.seen q' during end d.1 H.1 in
    record {
      inv = r.inv;
      taken = takes-append codes h.drum l xs rest y.lone.taken r.taken;
      starts = rw (y.lone.starts, r.starts) (sym (starts-append codes h.drum l xs rest));
      sim = rw (run-append codes h.drum l xs rest) r.sim;
      seen = r.seen;
      own = λ n. (rw d.0 (own-start h s I H.0 n t k x), r.own n);
      quiet = r.quiet;
    }

-- ---- the assignment

module _ (s : State) (I : Inv s) (j : ℕ) (asg : Assignment) (small : j < 16) (empty : is_empty (state_in s.jobs j) ≡ true)
    (h : Holding) (at_j : h.place ≡ j) where
  abbrev taken_unit : UnitState → UnitState
  taken_unit v = record { holder = Held j; down = v.down; reserved = v.reserved; interlock = false }

  not-j : (i : ℕ) → is_empty (state_in s.jobs i) ≡ false → eqb i h.place ≡ false
  not-j i a = by_bool (eqb i h.place) (λ e. never {b = is_empty (state_in s.jobs j)} empty (rw (eqb-true i h.place e ∙ at_j) at a)) (λ e. e)

  pub new-sim : Holds (assigned s j asg) h → Sim h (assigned s j asg) new_lone
  new-sim H =
      record {
        order = ap (λ (x : List ℕ). map num x) (sym (keep-none (on h (assigned s j asg).jobs) s.queue
            (all-imp (EntryOk s) (λ (e : ℕ). on h (assigned s j asg).jobs e ≡ false)
            (λ e k. rw (not-j (place_of e) (running-alive (state_in s.jobs (place_of e)) k.running))) s.queue I.queued)));
        table = λ n t. rw (packet-fresh s.jobs j asg h.place (rw I.places small) n, at_j, eqb-self j) blank-like;
        moving = sym (no-motion (motion_on s h.channel) refl);
        lock = sym no-lock-yet;
        here = λ n u. never {b = false} u refl;
        over = sym (ap (λ (x : JobState). not (is_running x)) running-now);
        asked = λ e. sym not-asked-yet;
      }
    where
      blank-like : Like unused blank
      blank-like = record { status = refl; function = refl; word = λ b. never {b = false} b refl }

      running-now : state_in (assigned s j asg).jobs h.place ≡ Running
      running-now = state-fresh s.jobs j asg h.place (rw I.places small) ∙ rw (at_j, eqb-self j)

      no-motion : (m : Motion) → motion_on s h.channel ≡ m → moving_there h (assigned s j asg).jobs m ≡ none
      no-motion None e = refl
      no-motion (Some (i, p)) e = rw (not-j i (I.motion h.channel i p e).alive)

      -- the unit has just been taken
      taken-there : h.drum ≡ false → unit_in (take_all s.units j (wanted asg)) h.channel h.unit
          ≡ taken_unit (unit_in s.units h.channel h.unit)
      taken-there d =
          let g : held_by (unit_in (take_all s.units j (wanted asg)) h.channel h.unit).holder h.place ≡ true =
          unit-held h (assigned s j asg) H d in
          let m = unit-take s.units j (wanted asg) h.channel h.unit in
          m.1 ∙ go (m.0 && assignable v) (rw m.1 at g)
        where
          v : UnitState
          v = unit_in s.units h.channel h.unit

          go : (w : Bool) → held_by (cond w (taken_unit v) v).holder h.place ≡ true → cond w (taken_unit v) v ≡ taken_unit v
          go true g = refl
          go false g = never {b = is_empty (state_in s.jobs j)} empty (rw at_j at (I.holders h.channel h.unit h.place g))

      no-lock-yet : lock_there h (take_all s.units j (wanted asg)) ≡ false
      no-lock-yet = by_bool h.drum (λ d. rw d) (λ d. rw (d, taken-there d))

      not-asked-yet : return_there h (take_all s.units j (wanted asg)) ≡ false
      not-asked-yet = by_bool h.drum (λ d. rw d) (λ d. rw (d, taken-there d))

pub assigned-sim : (s : State) → Inv s → (j : ℕ) (asg : Assignment) → refusal s (Take j asg) ≡ Ok tt → (h : Holding) → h.place ≡ j
    → Holds (step s (Take j asg)).state h → Sim h (step s (Take j asg)).state new_lone
unfolding accept
assigned-sim s I j asg r h at_j H =
    let k = assigns-to s j asg r in
    let e : (step s (Take j asg)).state ≡ assigned s j asg = ap (λ a. a.state) (step-accepted s (Take j asg) r) in
    rw e (new-sim s I j asg k.0 k.1 h at_j (rw e at H))

pub assigned-seen : (s : State) → Inv s → (j : ℕ) (asg : Assignment) → refusal s (Take j asg) ≡ Ok tt → (h : Holding) → h.place ≡ j
    → SeenOk h (step s (Take j asg)).state none_seen
unfolding accept
assigned-seen s I j asg r h at_j n =
    let k = assigns-to s j asg r in
    let e : (step s (Take j asg)).state ≡ assigned s j asg = ap (λ a. a.state) (step-accepted s (Take j asg) r) in
    let z : packet_in (assigned s j asg).jobs h.place n ≡ blank =
    packet-fresh s.jobs j asg h.place (rw I.places k.0) n ∙ rw (at_j, eqb-self j) in
    (λ x. never {b = false} x refl, λ b. never {b = false} (rw (e, z) at b) refl)

-- ---- a unit whose return is asked for

-- the job holds it exactly as long as a packet moves there
returned-so : (h : Holding) (s : State) → Inv s → Waits s → (l : Lone) → Sim h s l → h.drum ≡ false → l.returning ≡ true
    → held_by (unit_in s.units h.channel h.unit).holder h.place ≡ not (is_at_rest l.moving)
returned-so h s I W l S d r =
    by_bool (held_by (unit_in s.units h.channel h.unit).holder h.place)
    (λ t.
    let w = W h.channel h.unit (waits t) in
    let x : w.place ≡ h.place = held-once (unit_in s.units h.channel h.unit).holder w.place h.place w.held t in
    let m : motion_on s h.channel ≡ Some (h.place, w.packet) = rw x at w.moves in
    let u : (packet_in s.jobs h.place w.packet).at ≡ its_unit h = rw x at w.at in
    let y : there h (packet_in s.jobs h.place w.packet) ≡ true =
    is-there h (packet_in s.jobs h.place w.packet).channel.0 (packet_in s.jobs h.place w.packet).at d
    (I.motion h.channel h.place w.packet m).channel u in
    t ∙ sym (ap (λ (o : Option ℕ). not (is_at_rest o)) S.moving ∙ rw (m, eqb-self h.place, y)))
    (λ t. t ∙ sym (ap (λ (o : Option ℕ). not (is_at_rest o)) (S.moving ∙ rests t (motion_on s h.channel) refl)))
  where
    waits : held_by (unit_in s.units h.channel h.unit).holder h.place ≡ true
        → is_returning (unit_in s.units h.channel h.unit).holder ≡ true
    waits t =
        let e : l.returning ≡ return_there h s.units = S.asked (rw d t) in
        let e' : l.returning ≡ is_returning (unit_in s.units h.channel h.unit).holder = rw d at e in sym e' ∙ r

    rests : held_by (unit_in s.units h.channel h.unit).holder h.place ≡ false → (m : Motion) → motion_on s h.channel ≡ m
        → moving_there h s.jobs m ≡ none
    rests t None e = refl
    rests t (Some (j, p)) e =
        by_bool (eqb j h.place && there h (packet_in s.jobs h.place p))
        (λ x. let z : j ≡ h.place = eqb-true j h.place (and_left (eqb j h.place) _ x) in
        let e' : motion_on s h.channel ≡ Some (h.place, p) = rw z at e in
        let q = packet_in s.jobs h.place p in
        never {b = held_by (unit_in s.units h.channel h.unit).holder h.place}
        (mover h s I h.place p e' (there-unit h q.channel.0 q.at d (and_right (eqb j h.place) _ x))) t)
        (λ x. rw x)

pub demand3 : IsolatedAlways
demand3 before s₀ reached j asg r h at_j H during end leads stretch =
    let I₀ : Inv s₀ = reached-inv before s₀ reached in
    let taken = before ++ (event s₀ (Take j asg) ∷ []) in
    let s = (step s₀ (Take j asg)).state in
    let now : Reached taken s = reached-more before s₀ reached (Take j asg) in
    let I : Inv s = reached-inv taken s now in
    let same : s.codes ≡ s₀.codes = ap (λ (z : Configured). z.codes) (step-has s₀ (Take j asg)) in
    let k = through s₀.codes h s same I new_lone (assigned-sim s₀ I₀ j asg r h at_j H) none_seen (assigned-seen s₀ I₀ j asg r h at_j)
    (quiet-held h s I H) during end leads stretch in
    record {
      taken = k.taken;
      starts = k.starts;
      status = λ n t. (k.sim.table n ((k.seen n).0 t)).status;
      returned = λ d. returned-so h end k.inv (reached-waits (taken ++ during) end (reached-append taken s now during end leads))
          (lone_run s₀.codes h.drum new_lone (acting h none_seen during)) k.sim d;
      started = k.own;
      moves = λ d. own-motion h end k.inv d (seen_after h none_seen during) k.seen (k.quiet d);
    }
