-- The stores of the rules that leave the packets alone (units, places, the request list, what moves) keep a cell
-- and a lone unit alike. Assumes nothing.
use Rattle.std.proofs.Common.{None, Some}
use Prim.Native.Nat.{ℕ, ◌<◌}
use mathlib.Core.Path.{◌≡◌, refl, sym, ap, ◌∙◌}
use mathlib.Core.Bool.{Bool, true, false, not, cond}
use mathlib.Core.List.{List, [], ◌∷◌, ◌++◌, map, append-nil}
use mathlib.Core.Option.{Option}
use lib.Dec.{eqb}
use borrow.Author.Tests.{eqb-true}
use Rattle.units.specs.declared.Unit.{Unit as UnitState}
use Rattle.numbers.proofs.Tests.{by_bool, never}
use Rattle.units.specs.State.{unit_in}
use Rattle.units.specs.declared.Holder.TheVariants.{Free}
use Rattle.packets.specs.Demand.{Holding}
use Rattle.packets.proofs.Inv.{EntryOk, Inv}
use Rattle.packets.proofs.InvStores.{New, enlisted-is, entry-packet, motion-move}
use Rattle.numbers.specs.Elements.{keep}
use Rattle.packets.proofs.Laws.{all-imp, eqb-self, keep_append, keep_same}
use Rattle.packets.specs.Lone.{Lone, carries, joins, locks}
use Rattle.packets.proofs.Sim.{Sim, is_its, lock_there, moving_there, num, on, return_there}
use Rattle.packets.specs.State.{State, enqueue, entry_of, held_by, is_running, motion_on, move, packet_in, set_lock, state_in}
use Rattle.packets.proofs.Sites.{lock-holder}
use Rattle.packets.specs.declared.Site.{Site}
use Rattle.packets.specs.declared.Job.{Job}
use Rattle.packets.specs.State.{Motion}

map-append : (f : ℕ → ℕ) (l m : List ℕ) → map f (l ++ m) ≡ map f l ++ map f m
map-append f [] m = refl
map-append f (x ∷ l) m = ap (λ (r : List ℕ). f x ∷ r) (map-append f l m)

-- a change of the units by which the unit does not become the job's, nor, while it is, being returned
abbrev pub Stays : Holding → List (List UnitState) → List (List UnitState) → Type 0
Stays h new old = is_its h new ≡ true → (is_its h old ≡ true) × (return_there h new ≡ return_there h old)

-- its holder is as it was
pub stays-held : (h : Holding) (new old : List (List UnitState))
    → (h.drum ≡ false → (unit_in new h.channel h.unit).holder ≡ (unit_in old h.channel h.unit).holder) → Stays h new old
stays-held h new old e t =
    by_bool h.drum (λ d. rw d (refl, refl))
    (λ d. let k = e d in let t' : held_by (unit_in new h.channel h.unit).holder h.place ≡ true = rw d at t in rw (d, ← k) (t', refl))

pub stays-locked : (h : Holding) (units : List (List UnitState)) (c : ℕ) (a : Site) (b : Bool) → Stays h (set_lock units c a b) units
stays-locked h units c a b = stays-held h (set_lock units c a b) units (λ d. lock-holder units c a b h.channel h.unit)

-- or it is free
pub stays-free : (h : Holding) (new old : List (List UnitState)) → h.drum ≡ false → (unit_in new h.channel h.unit).holder ≡ Free
    → Stays h new old
stays-free h new old d e t = never {b = false} (rw (d, e) at t) refl

module _ (h : Holding) (s : State) (I : Inv s) (l : Lone) (S : Sim h s l) where
  kept : (units : List (List UnitState)) → Stays h units s.units → is_its h units ≡ true → l.returning ≡ return_there h units
  kept units k t = let x = k t in S.asked x.0 ∙ sym x.1

  pub sim-units : (units : List (List UnitState)) (b : Bool) → Stays h units s.units → lock_there h units ≡ b
      → Sim h (record { channels = s.channels; codes = s.codes; units = units; moving = s.moving; jobs = s.jobs; queue = s.queue }) (locks l b)
  sim-units units b k e = record {
    order = S.order;
    table = S.table;
    moving = S.moving;
    lock = sym e;
    here = S.here;
    over = S.over;
    asked = kept units k;
  }

  pub sim-units-away : (units : List (List UnitState)) → Stays h units s.units → lock_there h units ≡ lock_there h s.units
      → Sim h (record { channels = s.channels; codes = s.codes; units = units; moving = s.moving; jobs = s.jobs; queue = s.queue }) l
  sim-units-away units k e = record {
    order = S.order;
    table = S.table;
    moving = S.moving;
    lock = S.lock ∙ sym e;
    here = S.here;
    over = S.over;
    asked = kept units k;
  }

  pub sim-same-but : (units : List (List UnitState)) (jobs : List Job) → Stays h units s.units → lock_there h units ≡ lock_there h s.units
      → ((n : ℕ) → packet_in jobs h.place n ≡ packet_in s.jobs h.place n)
      → (b : Bool) → b ≡ not (is_running (state_in jobs h.place))
      → Sim h (record { channels = s.channels; codes = s.codes; units = units; moving = s.moving; jobs = jobs; queue = s.queue })
      (record { packets = l.packets; order = l.order; moving = l.moving; interlock = l.interlock; job_over = b; returning = l.returning })
  sim-same-but units jobs k e same b over =
      record {
        order = S.order ∙ ap (λ (x : List ℕ). map num x)
            (keep_same (on h s.jobs) (on h jobs) s.queue
            (all-imp (EntryOk s) (λ (e : ℕ). on h s.jobs e ≡ on h jobs e) (λ e k. rw same) s.queue I.queued));
        table = λ n t. rw same (S.table n (rw same at t));
        moving = S.moving ∙ again (motion_on s h.channel);
        lock = S.lock ∙ sym e;
        here = λ n u. rw same (S.here n u);
        over = over;
        asked = kept units k;
      }
    where
      again : (m : Motion) → moving_there h s.jobs m ≡ moving_there h jobs m
      again None = refl
      again (Some (j, p)) = rw same

  pub sim-same : (units : List (List UnitState)) (jobs : List Job) → Stays h units s.units → lock_there h units ≡ lock_there h s.units
      → ((n : ℕ) → packet_in jobs h.place n ≡ packet_in s.jobs h.place n)
      → is_running (state_in jobs h.place) ≡ is_running (state_in s.jobs h.place)
      → Sim h (record { channels = s.channels; codes = s.codes; units = units; moving = s.moving; jobs = jobs; queue = s.queue }) l
  sim-same units jobs k e same runs = sim-same-but units jobs k e same l.job_over (S.over ∙ ap not (sym runs))

  pub sim-enqueue : (j p : ℕ) → New s j p → on h s.jobs (entry_of j p) ≡ true → Sim h (enqueue s j p) (joins l p)
  sim-enqueue j p n o =
      record {
        order = rw (
          enlisted-is s I j p n,
          keep_append (on h s.jobs) s.queue (entry_of j p ∷ []),
          o,
          map-append num (keep (on h s.jobs) s.queue) (entry_of j p ∷ []),
          entry-packet j p n.small,
          S.order,
        );
        table = S.table;
        moving = S.moving;
        lock = S.lock;
        here = S.here;
        over = S.over;
        asked = S.asked;
      }

  pub sim-enqueue-away : (j p : ℕ) → New s j p → on h s.jobs (entry_of j p) ≡ false → Sim h (enqueue s j p) l
  sim-enqueue-away j p n o =
      record {
        order = rw (
          enlisted-is s I j p n,
          keep_append (on h s.jobs) s.queue (entry_of j p ∷ []),
          o,
          map-append num (keep (on h s.jobs) s.queue) [],
          S.order,
        )
            (sym (append-nil (map num (keep (on h s.jobs) s.queue))));
        table = S.table;
        moving = S.moving;
        lock = S.lock;
        here = S.here;
        over = S.over;
        asked = S.asked;
      }

  pub sim-move : (c : ℕ) (m : Motion) (x : Option ℕ) → c < 16 → h.channel ≡ c → moving_there h s.jobs m ≡ x → Sim h (move s c m) (carries l x)
  sim-move c m x small at_c e =
      record {
        order = S.order;
        table = S.table;
        lock = S.lock;
        here = S.here;
        over = S.over;
        asked = S.asked;
        moving = sym (ap (moving_there h s.jobs) now ∙ e);
      }
    where
      now : motion_on (move s c m) h.channel ≡ m
      now = motion-move s c m h.channel (rw I.channels small) ∙ rw (at_c, eqb-self c)

  pub sim-move-away : (c : ℕ) (m : Motion) → c < 16 → (h.channel ≡ c → moving_there h s.jobs m ≡ moving_there h s.jobs (motion_on s c))
      → Sim h (move s c m) l
  sim-move-away c m small e =
      record {
        order = S.order;
        table = S.table;
        lock = S.lock;
        here = S.here;
        over = S.over;
        asked = S.asked;
        moving = S.moving ∙ sym (ap (moving_there h s.jobs) (motion-move s c m h.channel (rw I.channels small)) ∙ go);
      }
    where
      go : moving_there h s.jobs (cond (eqb h.channel c) m (motion_on s h.channel)) ≡ moving_there h s.jobs (motion_on s h.channel)
      go = by_bool (eqb h.channel c)
          (λ t. let q : h.channel ≡ c = eqb-true h.channel c t in rw t (e q ∙ rw q))
          (λ t. rw t)
