-- A state seen at one place: each store of the rules there is one store of the job and one pass over the list.
-- Assumes nothing.
use Prim.Native.Nat.{ℕ, suc, zero, ◌<◌}
use mathlib.Core.Path.{◌≡◌, refl, ap}
use mathlib.Core.Bool.{Bool, true, false, cond, not, ◌&&◌}
use mathlib.Core.List.{List, [], ◌∷◌, map}
use lib.ListN.{length, get_or, set}
use lib.Seq.{get_or-set_same, set-get_or, set-set}
use Rattle.numbers.proofs.Tests.{by_bool, never}
use Rattle.units.specs.declared.Unit.{Unit as UnitState}
use Rattle.packets.specs.Rules.{leaving, return_if_done}
use Rattle.packets_end.specs.Over.{ending_if, ending_of}
use Rattle.numbers.specs.Elements.{keep}
use lib.Dec.{eqb}
use Rattle.packets.specs.State.{State, any_moves, blank, close, is_closing, is_kept, is_listed, job_in, no_job, packet_of, place_of, put}
use Rattle.packets.specs.State.{release_all, relist, restatus, restatus_all, set_state, state_in, store, sweep, with_packets, with_state}
use Rattle.packets.specs.declared.Job.{Job}
use Rattle.packets.specs.declared.JobState.{JobState}
use Rattle.packets.specs.declared.JobState.TheVariants.{Empty}
use Rattle.packets.specs.declared.Packet.{Packet}
use Rattle.packets.specs.declared.Status.{Status}

-- the state with this job in place j and this list
abbrev pub focus : State → ℕ → Job → List ℕ → State
focus s j x q = record { channels = s.channels; codes = s.codes; units = s.units; moving = s.moving; jobs = set s.jobs j x; queue = q }

pub focus-self : (s : State) (j : ℕ) → s ≡ focus s j (job_in s.jobs j) s.queue
focus-self s j = rw (set-get_or s.jobs j no_job)

module _ (jobs : List Job) (j : ℕ) (h : j < length jobs) (x : Job) where
  pub job-here : job_in (set jobs j x) j ≡ x
  job-here = get_or-set_same jobs j x no_job h

  put-here : (p : ℕ) (y : Packet) → put (set jobs j x) j p y ≡ set jobs j (with_packets x (set x.packets p y))
  unfolding put
  put-here p y = rw (job-here, set-set jobs j)

  restatus-here : (t : Packet → Bool) (f : Status → Status)
      → restatus_all (set jobs j x) j t f ≡ set jobs j (with_packets x (map (restatus t f) x.packets))
  unfolding restatus_all
  restatus-here t f = rw (job-here, set-set jobs j)

  pub state-here : (t : JobState) → set_state (set jobs j x) j t ≡ set jobs j (with_state x t)
  unfolding set_state
  state-here t = rw (job-here, set-set jobs j)

module _ (s : State) (j : ℕ) (h : j < length s.jobs) (x : Job) (q : List ℕ) where
  pub focus-store : (p : ℕ) (y : Packet)
      → store (focus s j x q) j p y ≡ focus s j (with_packets x (set x.packets p y)) (relist j (set x.packets p y) q)
  focus-store p y = rw (put-here s.jobs j h x p y, ap (λ (k : Job). k.packets) (job-here s.jobs j h (with_packets x (set x.packets p y))))

  pub focus-sweep : (t : Packet → Bool) (f : Status → Status)
      → sweep (focus s j x q) j t f ≡ focus s j (with_packets x (map (restatus t f) x.packets)) (relist j (map (restatus t f) x.packets) q)
  focus-sweep t f =
      rw (
        restatus-here s.jobs j h x t f,
        ap (λ (k : Job). k.packets) (job-here s.jobs j h (with_packets x (map (restatus t f) x.packets))),
      )

  pub focus-close : (t : JobState) → close (focus s j x q) j t ≡ focus s j (with_state x t) q
  focus-close t = rw (state-here s.jobs j h x t)

-- ---- a return

-- the state with other units
abbrev pub reunit : State → List (List UnitState) → State
reunit s units = record { channels = s.channels; codes = s.codes; units = units; moving = s.moving; jobs = s.jobs; queue = s.queue }

-- an ending leaves the packets alone
pub ending-packets : (b : Bool) (x : Job) → (ending_if b x).job.packets ≡ x.packets
ending-packets true x = refl
ending-packets false x = refl

module _ (s : State) (j : ℕ) (h : j < length s.jobs) (x : Job) (q : List ℕ) where
  state-is : state_in (set s.jobs j x) j ≡ x.state
  unfolding state_in
  state-is = ap (λ (k : Job). k.state) (job-here s.jobs j h x)

  pub focus-return : return_if_done j (focus s j x q)
      ≡ focus (reunit s (cond (ending_of x s.moving j).done (release_all s.units j) s.units)) j (ending_of x s.moving j).job q
  focus-return =
      by_bool (is_closing x.state && not (any_moves j s.moving))
      (λ t. rw (state-is, t, state-here s.jobs j h x Empty))
      (λ t. rw (state-is, t))

  pub focus-leaving : leaving j (focus s j x q) ≡ (ending_of x s.moving j).leaving
  focus-leaving =
      by_bool (is_closing x.state && not (any_moves j s.moving))
      (λ t. rw (state-is, t))
      (λ t. rw (state-is, t))

-- ---- the list gone through twice

keep-in : (f g : ℕ → Bool) → ((e : ℕ) → f e ≡ true → g e ≡ true) → (q : List ℕ) → keep f (keep g q) ≡ keep f q
keep-in f g k [] = refl
keep-in f g k (e ∷ q) =
    by_bool (g e)
    (λ t. rw (t, keep-in f g k q))
    (λ t. by_bool (f e) (λ d. never {b = g e} (k e d) t) (λ d. rw (t, d) (keep-in f g k q)))

-- what is listed in the end was listed on the way
abbrev pub Fewer : List Packet → List Packet → Type 0
Fewer ps qs = (n : ℕ) → is_listed (get_or qs n blank).status ≡ true → is_listed (get_or ps n blank).status ≡ true

pub relist-twice : (j : ℕ) (ps qs : List Packet) → Fewer ps qs → (q : List ℕ) → relist j qs (relist j ps q) ≡ relist j qs q
unfolding relist
relist-twice j ps qs k q = keep-in (is_kept j qs) (is_kept j ps) (λ e t. more e t) q
  where
    more : (e : ℕ) → is_kept j qs e ≡ true → is_kept j ps e ≡ true
    more e t =
        by_bool (eqb (place_of e) j)
        (λ d. rw d (k (packet_of e) (rw d at t)))
        (λ d. rw d)

pub fewer-set : (ps : List Packet) (p : ℕ) (y : Packet) → is_listed y.status ≡ false → Fewer ps (set ps p y)
fewer-set [] p y e n t = t
fewer-set (x ∷ ps) zero y e zero t = never {b = is_listed y.status} t e
fewer-set (x ∷ ps) zero y e (suc n) t = t
fewer-set (x ∷ ps) (suc p) y e zero t = t
fewer-set (x ∷ ps) (suc p) y e (suc n) t = fewer-set ps p y e n t

pub fewer-map : (ps : List Packet) (t : Packet → Bool) (f : Status → Status) → ((x : Status) → is_listed (f x) ≡ true → is_listed x ≡ true)
    → Fewer ps (map (restatus t f) ps)
fewer-map [] t f k n e = e
fewer-map (x ∷ ps) t f k zero e = by_bool (t x) (λ d. k x.status (rw d at e)) (λ d. rw d at e)
fewer-map (x ∷ ps) t f k (suc n) e = fewer-map ps t f k n e
