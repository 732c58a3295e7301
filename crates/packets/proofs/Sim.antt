-- A cell, seen from a holding, and a lone unit: when they agree, and that each store of the rules keeps them so.
use Rattle.std.proofs.Common.{None, Some}
use Prim.Native.Nat.{ℕ, ◌<◌}
use mathlib.Core.Path.{◌≡◌, refl, sym, ap, ◌∙◌}
use mathlib.Core.Bool.{Bool, true, false, not, cond, ◌&&◌}
use mathlib.Core.List.{List, [], ◌∷◌, map}
use mathlib.Core.Option.{Option, none, some}
use lib.ListN.{length}
use lib.Dec.{eqb}
use borrow.Author.Tests.{eqb-true}
use Rattle.units.specs.declared.Unit.{Unit as UnitState}
use Rattle.numbers.proofs.Tests.{by_bool, never}
use Rattle.units.specs.State.{is_returning, unit_in}
use Rattle.packets.specs.Demand.{Holding, there, word_at}
use Rattle.packets.proofs.Inv.{Elsewhere, EntryOk, Inv, kept-still, listed-busy, motion-busy}
use Rattle.packets.proofs.InvStores.{put-elsewhere, restatus-elsewhere}
use Rattle.numbers.specs.Elements.{All, keep}
use Rattle.packets.proofs.Laws.{all-imp, all_keep, and_both, and_left, and_right, eqb-self, keep_all, settle-eq}
use Rattle.packets.specs.Lone.{Lone, Request, become, settle, still, stores, waits, write, in_use}
use Rattle.packets.specs.State.{State, held_by, is_busy, is_kept, is_listed, motion_on, packet_in, packet_of, packets_in}
use Rattle.packets.specs.State.{place_of, put, relist, restatus, restatus_all, store, sweep, with_status, is_running}
use Rattle.packets.specs.State.{state_in}
use Rattle.packets.proofs.Store.{packet-put, packet-restatus, size_in, state-put, state-restatus}
use Rattle.packets.specs.declared.Job.{Job}
use Rattle.packets.specs.State.{Motion}
use Rattle.packets.specs.declared.Packet.{Packet}
use Rattle.packets.specs.declared.Status.{Status}
use Rattle.packets.specs.declared.Status.TheVariants.{Blank, Ended, InProgress, Listed, Stopping}

-- a lone unit's packet is like the cell's: of the same status and function, and, while it is listed, in progress or
-- stopping, at the same word
pub record Like (r : Request) (p : Packet) : Type 0 where
  pub status : r.status ≡ p.status
  pub function : r.function ≡ p.function
  pub word : is_busy p.status ≡ true → r.word ≡ word_at p.at

-- both get the same status, which does not put an idle packet in use
pub like-status : {r : Request} {p : Packet} → Like r p → (t u : Status) → t ≡ u
    → (is_busy u ≡ true → is_busy p.status ≡ true) → Like (become r t) (with_status p u)
like-status k t u e busy = record { status = e; function = k.function; word = λ b. k.word (busy b) }

abbrev pub num : ℕ → ℕ
num e = packet_of e

-- the entry is one of the holding's
abbrev pub on : Holding → List Job → ℕ → Bool
on h jobs e = eqb (place_of e) h.place && there h (packet_in jobs h.place (packet_of e))

abbrev pub moving_there : Holding → List Job → Motion → Option ℕ
moving_there h jobs None = none
moving_there h jobs (Some (j, p)) = cond (eqb j h.place && there h (packet_in jobs h.place p)) (some p) none

abbrev pub lock_there : Holding → List (List UnitState) → Bool
lock_there h units = cond h.drum false (unit_in units h.channel h.unit).interlock

-- the unit is being returned
abbrev pub return_there : Holding → List (List UnitState) → Bool
return_there h units = cond h.drum false (is_returning (unit_in units h.channel h.unit).holder)

-- it is a piece of drum, or the unit is still the job's
abbrev pub is_its : Holding → List (List UnitState) → Bool
is_its h units = cond h.drum true (held_by (unit_in units h.channel h.unit).holder h.place)

pub record Sim (h : Holding) (s : State) (l : Lone) : Type 0 where
  pub order : l.order ≡ map num (keep (on h s.jobs) s.queue)
  pub table : (n : ℕ) → there h (packet_in s.jobs h.place n) ≡ true
      → Like (l.packets n) (packet_in s.jobs h.place n)
  pub moving : l.moving ≡ moving_there h s.jobs (motion_on s h.channel)
  pub lock : l.interlock ≡ lock_there h s.units
  -- what the lone unit has listed, in progress or stopping was last submitted there
  pub here : (n : ℕ) → in_use (l.packets n).status ≡ true → there h (packet_in s.jobs h.place n) ≡ true
  pub over : l.job_over ≡ not (is_running (state_in s.jobs h.place))
  -- as long as the unit is the job's
  pub asked : is_its h s.units ≡ true → l.returning ≡ return_there h s.units

pub use-busy : (t : Status) → in_use t ≡ is_busy t
use-busy Blank = refl
use-busy Listed = refl
use-busy InProgress = refl
use-busy Stopping = refl
use-busy (Ended k) = refl

-- a packet that the lone unit has in use is busy in the cell
pub here-busy : (h : Holding) (s : State) (l : Lone) → Sim h s l → (n : ℕ) → in_use (l.packets n).status ≡ true
    → is_busy (packet_in s.jobs h.place n).status ≡ true
here-busy h s l S n u =
    sym (use-busy (packet_in s.jobs h.place n).status) ∙ ap in_use (sym (S.table n (S.here n u)).status) ∙ u

waits-listed : (t : Status) → is_listed t ≡ waits t
waits-listed Blank = refl
waits-listed Listed = refl
waits-listed InProgress = refl
waits-listed Stopping = refl
waits-listed (Ended k) = refl

still-keep : (t : ℕ → Request) (l : List ℕ) → still t l ≡ keep (λ (n : ℕ). waits (t n).status) l
still-keep t [] = refl
still-keep t (n ∷ l) = rw (still-keep t l)

all_map : (P : ℕ → Type 0) (f : ℕ → ℕ) (l : List ℕ) → All (λ (e : ℕ). P (f e)) l → All P (map f l)
all_map P f [] h = tt
all_map P f (x ∷ l) h = (h.0, all_map P f l h.1)

-- ---- a change of the packets

module _ (h : Holding) (s : State) (I : Inv s) (l : Lone) (S : Sim h s l) where
  order-waits : still l.packets l.order ≡ l.order
  order-waits =
      still-keep l.packets l.order
      ∙ keep_all (λ (n : ℕ). waits (l.packets n).status) l.order
      (rw S.order
      (all_map (λ (n : ℕ). waits (l.packets n).status ≡ true) num (keep (on h s.jobs) s.queue)
      (all-imp (λ (e : ℕ). EntryOk s e × (on h s.jobs e ≡ true)) (λ (e : ℕ). waits (l.packets (num e)).status ≡ true) each
      (keep (on h s.jobs) s.queue)
      (all_keep (EntryOk s) (on h s.jobs) s.queue I.queued))))
    where
      each : (e : ℕ) → EntryOk s e × (on h s.jobs e ≡ true) → waits (l.packets (num e)).status ≡ true
      each e k =
          let p : place_of e ≡ h.place = eqb-true (place_of e) h.place (and_left (eqb (place_of e) h.place) _ k.1) in
          ap waits (S.table (packet_of e) (and_right (eqb (place_of e) h.place) _ k.1)).status
          ∙ sym (waits-listed (packet_in s.jobs h.place (packet_of e)).status) ∙ rw p at k.0.listed

  module _ (j : ℕ) (jobs : List Job) (elsewhere : Elsewhere j s.jobs jobs)
      (kept : (n : ℕ) → is_busy (packet_in s.jobs h.place n).status ≡ true
      → there h (packet_in jobs h.place n) ≡ there h (packet_in s.jobs h.place n))
      (states : state_in jobs h.place ≡ state_in s.jobs h.place) where
    abbrev rejob : State
    rejob = record {
      channels = s.channels;
      codes = s.codes;
      units = s.units;
      moving = s.moving;
      jobs = jobs;
      queue = relist j (packets_in jobs j) s.queue;
    }

    same-moving : (m : Motion) → motion_on s h.channel ≡ m → moving_there h s.jobs m ≡ moving_there h jobs m
    same-moving None e = refl
    same-moving (Some (j, p)) e =
        by_bool (eqb j h.place)
        (λ t. let q : j ≡ h.place = eqb-true j h.place t in
        rw (t, kept p (motion-busy (packet_in s.jobs h.place p).status (rw q at (I.motion h.channel j p e).going))))
        (λ t. rw t)

    pub sim-jobs : (t : ℕ → Request)
        → ((n : ℕ) → there h (packet_in jobs h.place n) ≡ true → Like (t n) (packet_in jobs h.place n))
        → ((n : ℕ) → in_use (t n).status ≡ true → there h (packet_in jobs h.place n) ≡ true)
        → Sim h rejob (settle l t)
    unfolding relist
    sim-jobs t table here =
        record {
          order = still-keep t l.order ∙ rw S.order
              (settle-eq (on h s.jobs) (on h jobs) (is_kept j (packets_in jobs j)) num (λ (n : ℕ). waits (t n).status) s.queue
              (all-imp (EntryOk s)
              (λ (e : ℕ). (on h jobs e ≡ on h s.jobs e)
              × (on h s.jobs e ≡ true → is_kept j (packets_in jobs j) e ≡ waits (t (num e)).status))
              (λ e k. (same e k, λ o. kept-still j s.jobs jobs elsewhere e k.listed ∙ listens e k o)) s.queue I.queued));
          table = table;
          moving = S.moving ∙ same-moving (motion_on s h.channel) refl;
          lock = S.lock;
          here = here;
          over = rw states S.over;
          asked = S.asked;
        }
      where
        same : (e : ℕ) → EntryOk s e → on h jobs e ≡ on h s.jobs e
        same e k =
            by_bool (eqb (place_of e) h.place)
            (λ d. let q : place_of e ≡ h.place = eqb-true (place_of e) h.place d in
            rw (d, kept (packet_of e) (listed-busy (packet_in s.jobs h.place (packet_of e)).status (rw q at k.listed))))
            (λ d. rw d)

        listens : (e : ℕ) → EntryOk s e → on h s.jobs e ≡ true
            → is_listed (packet_in jobs (place_of e) (packet_of e)).status ≡ waits (t (num e)).status
        listens e k o =
            let p : place_of e ≡ h.place = eqb-true (place_of e) h.place (and_left (eqb (place_of e) h.place) _ o) in
            let o' : on h jobs e ≡ true = same e k ∙ o in
            rw p (waits-listed (packet_in jobs h.place (packet_of e)).status
            ∙ ap waits (sym (table (packet_of e) (and_right (eqb (place_of e) h.place) _ o')).status))

    pub sim-jobs-away : ((n : ℕ) → there h (packet_in jobs h.place n) ≡ true → Like (l.packets n) (packet_in jobs h.place n))
        → Sim h rejob l
    sim-jobs-away table =
        record {
          order = sym order-waits ∙ (sim-jobs l.packets table here).order;
          table = table;
          moving = S.moving ∙ same-moving (motion_on s h.channel) refl;
          lock = S.lock;
          here = here;
          over = rw states S.over;
          asked = S.asked;
        }
      where
        here : (n : ℕ) → in_use (l.packets n).status ≡ true → there h (packet_in jobs h.place n) ≡ true
        here n u = kept n (here-busy h s l S n u) ∙ S.here n u

  -- ---- one packet

  module _ (j p : ℕ) (q : Packet) (fits : p < size_in s.jobs j)
      (same : is_busy (packet_in s.jobs j p).status ≡ true → there h q ≡ there h (packet_in s.jobs j p)) where
    store_kept : (n : ℕ) → is_busy (packet_in s.jobs h.place n).status ≡ true
        → there h (packet_in (put s.jobs j p q) h.place n) ≡ there h (packet_in s.jobs h.place n)
    store_kept n b =
        rw (packet-put s.jobs j p q h.place n fits)
        (by_bool (eqb h.place j && eqb n p)
        (λ e. let x : h.place ≡ j = eqb-true h.place j (and_left (eqb h.place j) (eqb n p) e) in
        let y : n ≡ p = eqb-true n p (and_right (eqb h.place j) (eqb n p) e) in
        rw e (rw (x, y) (same (rw (x, y) at b))))
        (λ e. rw e))

    pub sim-store : h.place ≡ j → there h q ≡ true → (r : Request) → Like r q → Sim h (store s j p q) (stores l p r)
    sim-store at_j is-here r is =
        sim-jobs j (put s.jobs j p q) (put-elsewhere s.jobs j p q fits) store_kept (state-put s.jobs j p q h.place)
        (write l.packets p r) table here
      where
        here : (n : ℕ) → in_use (write l.packets p r n).status ≡ true → there h (packet_in (put s.jobs j p q) h.place n) ≡ true
        here n u =
            let m : eqb h.place j ≡ true = rw at_j (eqb-self j) in
            rw (packet-put s.jobs j p q h.place n fits, m)
            (by_bool (eqb n p) (λ e. rw e is-here) (λ e. rw e (S.here n (rw e at u))))

        table : (n : ℕ) → there h (packet_in (put s.jobs j p q) h.place n) ≡ true
            → Like (write l.packets p r n) (packet_in (put s.jobs j p q) h.place n)
        table n t =
            let t' : there h (cond (eqb h.place j && eqb n p) q (packet_in s.jobs h.place n)) ≡ true =
            rw (packet-put s.jobs j p q h.place n fits) at t in
            let m : eqb h.place j ≡ true = rw at_j (eqb-self j) in
            rw (packet-put s.jobs j p q h.place n fits, m)
            (by_bool (eqb n p) (λ e. rw e is) (λ e. rw e (S.table n (rw (m, e) at t'))))

    pub sim-store-away : eqb h.place j && there h q ≡ false → Sim h (store s j p q) l
    sim-store-away away =
        sim-jobs-away j (put s.jobs j p q) (put-elsewhere s.jobs j p q fits) store_kept (state-put s.jobs j p q h.place) table
      where
        table : (n : ℕ) → there h (packet_in (put s.jobs j p q) h.place n) ≡ true
            → Like (l.packets n) (packet_in (put s.jobs j p q) h.place n)
        table n t =
            let t' : there h (cond (eqb h.place j && eqb n p) q (packet_in s.jobs h.place n)) ≡ true =
            rw (packet-put s.jobs j p q h.place n fits) at t in
            rw (packet-put s.jobs j p q h.place n fits)
            (by_bool (eqb h.place j && eqb n p)
            (λ e. never {b = eqb h.place j && there h q} (and_both _ _ (and_left (eqb h.place j) (eqb n p) e) (rw e at t')) away)
            (λ e. rw e (S.table n (rw e at t'))))

  -- ---- the packets of a job

  module _ (j : ℕ) (test : Packet → Bool) (f : Status → Status) (inside : j < length s.jobs) (fb : f Blank ≡ Blank) where
    sweep-kept : (n : ℕ) → is_busy (packet_in s.jobs h.place n).status ≡ true
        → there h (packet_in (restatus_all s.jobs j test f) h.place n) ≡ there h (packet_in s.jobs h.place n)
    sweep-kept n b = rw (packet-restatus s.jobs j test f h.place n inside fb) (by_bool (eqb h.place j) (λ e. rw e) (λ e. rw e))

    pub sim-sweep : h.place ≡ j → (t : ℕ → Request)
        → ((n : ℕ) → there h (packet_in s.jobs h.place n) ≡ true → Like (t n) (restatus test f (packet_in s.jobs h.place n)))
        → ((n : ℕ) → in_use (t n).status ≡ true → in_use (l.packets n).status ≡ true)
        → Sim h (sweep s j test f) (settle l t)
    sim-sweep at_j t is uses =
        sim-jobs j (restatus_all s.jobs j test f) (restatus-elsewhere s.jobs j test f inside fb) sweep-kept
        (state-restatus s.jobs j test f h.place) t table
        (λ n u. sweep-kept n (here-busy h s l S n (uses n u)) ∙ S.here n (uses n u))
      where
        table : (n : ℕ) → there h (packet_in (restatus_all s.jobs j test f) h.place n) ≡ true
            → Like (t n) (packet_in (restatus_all s.jobs j test f) h.place n)
        table n e =
            let m : eqb h.place j ≡ true = rw at_j (eqb-self j) in
            let e' : there h (cond (eqb h.place j) (restatus test f (packet_in s.jobs h.place n)) (packet_in s.jobs h.place n))
            ≡ true =
            rw (packet-restatus s.jobs j test f h.place n inside fb) at e in
            rw (packet-restatus s.jobs j test f h.place n inside fb, m) (is n (rw m at e'))

    pub sim-sweep-away : ((n : ℕ) → h.place ≡ j → there h (packet_in s.jobs h.place n) ≡ true
        → test (packet_in s.jobs h.place n) ≡ false)
        → Sim h (sweep s j test f) l
    sim-sweep-away away =
        sim-jobs-away j (restatus_all s.jobs j test f) (restatus-elsewhere s.jobs j test f inside fb) sweep-kept
        (state-restatus s.jobs j test f h.place) table
      where
        table : (n : ℕ) → there h (packet_in (restatus_all s.jobs j test f) h.place n) ≡ true
            → Like (l.packets n) (packet_in (restatus_all s.jobs j test f) h.place n)
        table n e =
            let e' : there h (cond (eqb h.place j) (restatus test f (packet_in s.jobs h.place n)) (packet_in s.jobs h.place n))
            ≡ true =
            rw (packet-restatus s.jobs j test f h.place n inside fb) at e in
            rw (packet-restatus s.jobs j test f h.place n inside fb)
            (by_bool (eqb h.place j)
            (λ d.
            let g : there h (packet_in s.jobs h.place n) ≡ true = rw d at e' in
            rw (d, away n (eqb-true h.place j d) g) (S.table n g))
            (λ d. rw d (S.table n (rw d at e'))))
