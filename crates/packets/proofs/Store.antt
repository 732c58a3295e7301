-- What the stores of Rules leave: each packet, job state and unit after put, restatus_all, set_state, unit_set,
-- release_all, take_all.
use Prim.Native.Nat.{ℕ, zero, suc, ◌+◌, ◌<◌}
use mathlib.Core.Path.{◌≡◌, refl, sym, ap, ◌∙◌, subst}
use mathlib.Core.Bool.{Bool, true, false, cond, ◌&&◌}
use mathlib.Core.List.{List, [], ◌∷◌, map}
use native.Mathlib.Omega.{arith}
use native.Mathlib.Decide.{dec_lt}
use lib.ListN.{length, get_or, set, length-set, length-map, get_or-eq_default, get_or-map}
use lib.Dec.{eqb}
use borrow.Author.Tests.{eqb-true}
use Rattle.numbers.proofs.Stores.{get_d-replicate-same, get_d_set}
use Rattle.units.specs.declared.Unit.{Unit as UnitState}
use Rattle.numbers.proofs.Tests.{by_bool, never}
use Rattle.units.specs.State.{fresh_unit, is_free, unit_in, unit_set}
use Rattle.packets.proofs.Laws.{get_d-map_from, get_d-set-keep}
use Rattle.numbers.specs.Elements.{map_from}
use Rattle.packets.specs.Rules.{fresh_job}
use Rattle.packets.specs.State.{blank, is_busy, is_empty, job_in, no_job, packet_in, put, release, release_all, restatus}
use Rattle.packets.specs.State.{restatus_all, set_state, state_in, take_all, take_unit, with_packets, with_state}
use Rattle.packets.specs.declared.Assignment.{Assignment}
use Rattle.packets.specs.declared.Job.{Job}
use Rattle.packets.specs.declared.JobState.{JobState}
use Rattle.packets.specs.declared.JobState.TheVariants.{Running}
use Rattle.packets.specs.declared.Packet.{Packet}
use Rattle.packets.specs.declared.Status.{Status}
use Rattle.packets.specs.declared.Status.TheVariants.{Blank}

-- how many packets the job in place j has
unfoldable pub size_in : List Job → ℕ → ℕ
size_in jobs j = length (job_in jobs j).packets

within : {A : Type 0} (l : List A) (i : ℕ) (d : A) → (get_or l i d ≡ d → ⊥) → i < length l
within l i d h = elim (dec_lt i (length l)) [ yes p ↦ p | no q ↦ absurd (h (get_or-eq_default l d (omega arith))) ]

pub alive-in : (jobs : List Job) (j : ℕ) → is_empty (state_in jobs j) ≡ false → j < length jobs
unfolding state_in
alive-in jobs j h = within jobs j no_job (λ e. never {b = is_empty (job_in jobs j).state} (rw e) h)

sized-in : (jobs : List Job) (j p : ℕ) → p < size_in jobs j → j < length jobs
unfolding size_in
sized-in jobs j p h = within jobs j no_job (λ e. let z : p < length no_job.packets = rw e at h in omega arith)

-- a packet that is busy is one of the job's
pub busy-in : (jobs : List Job) (j p : ℕ) → is_busy (packet_in jobs j p).status ≡ true → p < size_in jobs j
unfolding packet_in size_in
busy-in jobs j p h = within (job_in jobs j).packets p blank (λ e. never {b = is_busy (get_or (job_in jobs j).packets p blank).status} h (rw e))

-- ---- packets

pub packet-put : (jobs : List Job) (j p : ℕ) (q : Packet) (i n : ℕ) → p < size_in jobs j
    → packet_in (put jobs j p q) i n ≡ cond (eqb i j && eqb n p) q (packet_in jobs i n)
unfolding packet_in put size_in
packet-put jobs j p q i n h =
    rw (get_d_set jobs j (with_packets (job_in jobs j) (set (job_in jobs j).packets p q)) i no_job (sized-in jobs j p h))
    (by_bool (eqb i j)
    (λ e. rw e (rw (eqb-true i j e) (get_d_set (job_in jobs j).packets p q n blank h)))
    (λ e. rw e))

pub packet-restatus : (jobs : List Job) (j : ℕ) (t : Packet → Bool) (f : Status → Status) (i n : ℕ) → j < length jobs → f Blank ≡ Blank
    → packet_in (restatus_all jobs j t f) i n ≡ cond (eqb i j) (restatus t f (packet_in jobs i n)) (packet_in jobs i n)
unfolding packet_in restatus_all
packet-restatus jobs j t f i n h fb =
    rw (get_d_set jobs j (with_packets (job_in jobs j) (map (restatus t f) (job_in jobs j).packets)) i no_job h)
    (by_bool (eqb i j)
    (λ e. rw e (rw (eqb-true i j e) (go ∙ get_or-map (restatus t f) (job_in jobs j).packets n blank)))
    (λ e. rw e))
  where
    same : restatus t f blank ≡ blank
    same = by_bool (t blank) (λ e. rw (e, fb)) (λ e. rw e)

    go : get_or (map (restatus t f) (job_in jobs j).packets) n blank ≡ get_or (map (restatus t f) (job_in jobs j).packets) n (restatus t f blank)
    go = ap (λ (d : Packet). get_or (map (restatus t f) (job_in jobs j).packets) n d) (sym same)

pub packet-state : (jobs : List Job) (j : ℕ) (t : JobState) (i n : ℕ) → packet_in (set_state jobs j t) i n ≡ packet_in jobs i n
unfolding packet_in set_state
packet-state jobs j t i n =
    ap (λ (l : List Packet). get_or l n blank) (get_d-set-keep (λ (k : Job). k.packets) jobs j _ i no_job refl)

-- ---- job states

pub state-put : (jobs : List Job) (j p : ℕ) (q : Packet) (i : ℕ) → state_in (put jobs j p q) i ≡ state_in jobs i
unfolding state_in put
state-put jobs j p q i = get_d-set-keep (λ (k : Job). k.state) jobs j _ i no_job refl

pub state-restatus : (jobs : List Job) (j : ℕ) (t : Packet → Bool) (f : Status → Status) (i : ℕ) → state_in (restatus_all jobs j t f) i ≡ state_in jobs i
unfolding state_in restatus_all
state-restatus jobs j t f i = get_d-set-keep (λ (k : Job). k.state) jobs j _ i no_job refl

pub state-state : (jobs : List Job) (j : ℕ) (t : JobState) (i : ℕ) → j < length jobs
    → state_in (set_state jobs j t) i ≡ cond (eqb i j) t (state_in jobs i)
unfolding state_in set_state
state-state jobs j t i h =
    ap (λ (k : Job). k.state) (get_d_set jobs j (with_state (job_in jobs j) t) i no_job h)
    ∙ by_bool (eqb i j) (λ e. rw e) (λ e. rw e)

-- ---- sizes

pub size-put : (jobs : List Job) (j p : ℕ) (q : Packet) (i : ℕ) → size_in (put jobs j p q) i ≡ size_in jobs i
unfolding size_in put
size-put jobs j p q i = get_d-set-keep (λ (k : Job). length k.packets) jobs j _ i no_job (length-set (job_in jobs j).packets p q)

pub size-restatus : (jobs : List Job) (j : ℕ) (t : Packet → Bool) (f : Status → Status) (i : ℕ) → size_in (restatus_all jobs j t f) i ≡ size_in jobs i
unfolding size_in restatus_all
size-restatus jobs j t f i = get_d-set-keep (λ (k : Job). length k.packets) jobs j _ i no_job (length-map (job_in jobs j).packets (restatus t f))

pub size-state : (jobs : List Job) (j : ℕ) (t : JobState) (i : ℕ) → size_in (set_state jobs j t) i ≡ size_in jobs i
unfolding size_in set_state
size-state jobs j t i = get_d-set-keep (λ (k : Job). length k.packets) jobs j _ i no_job refl

-- ---- lengths

pub length-put : (jobs : List Job) (j p : ℕ) (q : Packet) → length (put jobs j p q) ≡ length jobs
unfolding put
length-put jobs j p q = length-set jobs j (with_packets (job_in jobs j) (set (job_in jobs j).packets p q))

pub length-restatus : (jobs : List Job) (j : ℕ) (t : Packet → Bool) (f : Status → Status) → length (restatus_all jobs j t f) ≡ length jobs
unfolding restatus_all
length-restatus jobs j t f = length-set jobs j (with_packets (job_in jobs j) (map (restatus t f) (job_in jobs j).packets))

pub length-state : (jobs : List Job) (j : ℕ) (t : JobState) → length (set_state jobs j t) ≡ length jobs
unfolding set_state
length-state jobs j t = length-set jobs j (with_state (job_in jobs j) t)

-- ---- a new job

module _ (jobs : List Job) (j : ℕ) (asg : Assignment) (i : ℕ) (h : j < length jobs) where
  pub packet-fresh : (n : ℕ) → packet_in (set jobs j (fresh_job asg)) i n ≡ cond (eqb i j) blank (packet_in jobs i n)
  unfolding packet_in
  packet-fresh n =
      ap (λ (k : Job). get_or k.packets n blank) (get_d_set jobs j (fresh_job asg) i no_job h)
      ∙ by_bool (eqb i j) (λ e. rw e (get_d-replicate-same 16 n blank)) (λ e. rw e)

  pub state-fresh : state_in (set jobs j (fresh_job asg)) i ≡ cond (eqb i j) Running (state_in jobs i)
  unfolding state_in
  state-fresh =
      ap (λ (k : Job). k.state) (get_d_set jobs j (fresh_job asg) i no_job h)
      ∙ by_bool (eqb i j) (λ e. rw e) (λ e. rw e)

  pub size-fresh : size_in (set jobs j (fresh_job asg)) i ≡ cond (eqb i j) 16 (size_in jobs i)
  unfolding size_in
  size-fresh =
      ap (λ (k : Job). length k.packets) (get_d_set jobs j (fresh_job asg) i no_job h)
      ∙ by_bool (eqb i j) (λ e. rw e) (λ e. rw e)

-- ---- units

pub unit-set : (units : List (List UnitState)) (c u : ℕ) (v : UnitState) (d w : ℕ) → is_free (unit_in units c u).holder ≡ false
    → unit_in (unit_set units c u v) d w ≡ cond (eqb d c && eqb w u) v (unit_in units d w)
unfolding unit_in unit_set
unit-set units c u v d w h =
    rw (get_d_set units c (set (get_or units c []) u v) d [] row)
    (by_bool (eqb d c)
    (λ e. rw e (rw (eqb-true d c e) (get_d_set (get_or units c []) u v w (fresh_unit false) col)))
    (λ e. rw e))
  where
    col : u < length (get_or units c [])
    col = within (get_or units c []) u (fresh_unit false) (λ e. never {b = is_free (get_or (get_or units c []) u (fresh_unit false)).holder} (rw e) h)

    row : c < length units
    row = within units c [] (λ e. let z : u < 0 = subst (λ (r : List UnitState). u < length r) e col in omega arith)

pub unit-keep : {B : Type 0} (f : UnitState → B) (units : List (List UnitState)) (c u : ℕ) (v : UnitState) (d w : ℕ)
    → f v ≡ f (unit_in units c u) → f (unit_in (unit_set units c u v) d w) ≡ f (unit_in units d w)
unfolding unit_in unit_set
unit-keep f units c u v d w h =
    get_d-set-keep (λ (row : List UnitState). f (get_or row w (fresh_unit false))) units c (set (get_or units c []) u v) d []
    (get_d-set-keep f (get_or units c []) u v w (fresh_unit false) h)

pub unit-release : (units : List (List UnitState)) (j c u : ℕ) → unit_in (release_all units j) c u ≡ release j (unit_in units c u)
unfolding unit_in release_all
unit-release units j c u =
    ap (λ (row : List UnitState). get_or row u (fresh_unit false)) (get_or-map (map (release j)) units c [])
    ∙ get_or-map (release j) (get_or units c []) u (fresh_unit false)

-- each unit is taken or left; one that is not there is left
pub unit-take : (units : List (List UnitState)) (j : ℕ) (wants : ℕ → ℕ → Bool) (c u : ℕ)
    → (w : Bool) × (unit_in (take_all units j wants) c u ≡ take_unit j w (unit_in units c u))
unfolding unit_in take_all
unit-take units j wants c u =
    let r : get_or (map_from 0 (λ c row. map_from 0 (λ u v. take_unit j (wants c u) v) row) units) c []
    ≡ map_from 0 (λ u v. take_unit j (wants (0 + c) u) v) (get_or units c []) =
    get_d-map_from (λ c row. map_from 0 (λ u v. take_unit j (wants c u) v) row) [] (λ k. refl) 0 units c in
    let s = one 0 (get_or units c []) u in
    (s.0, ap (λ (row : List UnitState). get_or row u (fresh_unit false)) r ∙ s.1)
  where
    one : (m : ℕ) (row : List UnitState) (k : ℕ)
        → (w : Bool) × (get_or (map_from m (λ u v. take_unit j (wants (0 + c) u) v) row) k (fresh_unit false)
        ≡ take_unit j w (get_or row k (fresh_unit false)))
    one m [] k = (false, refl)
    one m (v ∷ row) zero = (wants (0 + c) m, refl)
    one m (v ∷ row) (suc k) = one (suc m) row k
