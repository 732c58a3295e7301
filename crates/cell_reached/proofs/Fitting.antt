-- A SELECTION IS A TAKING OF ASSIGNABLE FACILITIES: words of drum and blocks of core that no job holds, and units
-- that are free and unmarked. So every history of the cell is, for the lists, one in which each taking fits.
-- Assumes nothing.
use Prim.Native.Nat.{ℕ, zero, suc, ◌+◌, ◌*◌, ◌/◌, ◌%◌, ◌≤◌, ◌<◌}
use mathlib.Core.Path.{◌≡◌, refl, sym, ap, subst, ◌∙◌}
use mathlib.Core.Bool.{Bool, true, false, cond}
use mathlib.Core.List.{List, [], ◌∷◌, map}
use native.Mathlib.Omega.{arith}
use lib.Dec.{eqb, leb, ltb}
use lib.ListN.{length, get_or, length-map, get_or-map}
use borrow.Author.Tests.{leb-true, ltb-true}
use Rattle.numbers.proofs.Tests.{both, by_bool}
use Rattle.units.specs.State.{assignable, unit_in}
use Rattle.assign_free.specs.Assignable.{is_free_of, units_of_kind}
use Rattle.channels.specs.Channels.{no_channel}
use Rattle.numbers.specs.Bits.{bit}
use Rattle.assign_drum.specs.Drum.{In, no_area}
use Rattle.assign_drum.specs.declared.Area.{Area}
use Rattle.assign_heads.specs.Whose.{blank}
use Rattle.cards_request.specs.declared.Facilities.{Facilities}
use Rattle.cards_request.specs.declared.Request.{Request}
use Rattle.schedule_entries.specs.declared.Entry.{Entry}
use Rattle.assign.specs.Assignment.{IsAssignment}
use Rattle.packets.specs.Apart.{Fits, in_core}
use Rattle.numbers.specs.Elements.{any}
use Rattle.numbers.specs.Limits.{blocks}
use Rattle.packets.specs.Rules as Rules
use Rattle.packets.specs.State.{in_run, is_empty, job_in, no_job, state_in, wanted}
use Rattle.packets.proofs.Store.{alive-in}
use Rattle.packets.specs.declared.Core.{Core}
use Rattle.packets.specs.declared.Job.{Job}
use Rattle.packets.specs.declared.Lists.{Lists}
use Rattle.lists.specs.Outcomes.{state_of}
use Rattle.cell_taken.specs.Taken.{any_has, area_of, core_of, in_blocks, occupancy}
use Rattle.cell_taken.proofs.TakenLaws.{occupancy-bit}
use Rattle.cell_selection.specs.Selecting.{Selected, assignment_of, is_taken, run_of, supply_in, taking_of}
use Rattle.cell_selection.specs.declared.Selection.{Selection}

-- some element of a list passes a test
any_here : {A : Type 0} (f : A → Bool) (l : List A) (i : ℕ) (d : A) → i < length l → f (get_or l i d) ≡ true → any f l ≡ true
any_here f [] i d h e = absurd (omega arith)
any_here f (x ∷ l) zero d h e = rw e refl
any_here f (x ∷ l) (suc i) d h e = by_bool (f x) (λ t. rw t refl) (λ t. rw t (any_here f l i d (omega arith) e))

-- a block of a run that is asked for
in-run : (start n b : ℕ) → in_run (run_of start n) b ≡ true → (start ≤ b) × (b < start + n)
in-run start n b e =
    by_bool (eqb n 0)
    (λ t. let h = both (leb 0 b) (ltb b (0 + 0)) (rw t at e) in absurd (omega (arith, ltb-true b (0 + 0) h.1)))
    (λ t. let h = both (leb start b) (ltb b (start + n)) (rw t at e) in (leb-true start b h.0, ltb-true b (start + n) h.1))

-- the area of a live place
live-area : (job : Job) → is_empty job.state ≡ false → area_of job ≡ record { start = job.from; words = job.words }
live-area job e = rw e refl

live-core : (job : Job) → is_empty job.state ≡ false → core_of job ≡ job.core
live-core job e = rw e refl

module _ (es : List Entry) (lists : Lists) (s : Selection) (d : Selected es lists s) where
  abbrev jobs : List Job
  jobs = lists.jobs

  -- what is asked for
  abbrev asks : Facilities
  asks = s.request.facilities

  -- the chosen assignment is one
  is : IsAssignment (supply_in lists) asks s.assigned
  is = subst (λ (r : Request). IsAssignment (supply_in lists) r.facilities s.assigned) (sym d.request) d.fit.chosen.is

  -- words of drum that no job holds
  pub area-fits : Fits Rules.in_area (state_of lists) (taking_of s)
  unfolding state_in
  area-fits i x alive hold new =
      let n = both (leb s.assigned.drum x) (ltb x (s.assigned.drum + asks.md)) new in
      let k = both (leb (job_in jobs i).from x) (ltb x ((job_in jobs i).from + (job_in jobs i).words)) hold in
      let low = leb-true s.assigned.drum x n.0 in
      let high = ltb-true x (s.assigned.drum + asks.md) n.1 in
      let there : get_or (map area_of jobs) i no_area ≡ record { start = (job_in jobs i).from; words = (job_in jobs i).words } =
      get_or-map area_of jobs i no_job ∙ live-area (job_in jobs i) alive in
      (is.drum (omega (arith, low, high))).free x low high i
      (subst (λ (a : Area). In a x) (sym there)
      (record { from = leb-true (job_in jobs i).from x k.0; below = ltb-true x ((job_in jobs i).from + (job_in jobs i).words) k.1 }))

  -- a block that a live job holds is not free in the occupancy word
  held-bit : (i b : ℕ) → is_empty (state_in jobs i) ≡ false → in_core (job_in jobs i) b ≡ true → b < blocks
      → bit (occupancy (any_has (map core_of jobs)) blocks) b ≡ 0 → ⊥
  unfolding state_in
  held-bit i b alive hold h z =
      let f : Core → Bool = λ (core : Core). in_blocks core b in
      let a : any f (map core_of jobs) ≡ true =
      any_here f (map core_of jobs) i (core_of no_job)
      (subst (λ (n : ℕ). i < n) (sym (length-map jobs core_of)) (alive-in jobs i (unfold state_in in alive)))
      (ap f (get_or-map core_of jobs i no_job ∙ live-core (job_in jobs i) alive) ∙ hold) in
      let o : bit (occupancy (any_has (map core_of jobs)) blocks) b ≡ cond (any_has (map core_of jobs) b) 1 0 =
      occupancy-bit (any_has (map core_of jobs)) blocks b h in
      let one : ◌≡◌ {A = ℕ} (cond (any_has (map core_of jobs) b) 1 0) 1 = ap (λ (t : Bool). cond t 1 0) a in
      let n : ◌≡◌ {A = ℕ} 0 1 = sym z ∙ o ∙ one in
      absurd (omega arith)

  -- blocks of core that no job holds
  pub core-fits : Fits in_core (state_of lists) (taking_of s)
  core-fits i b alive hold new =
      by_bool (in_run (run_of s.assigned.ib asks.ib) b)
      (λ t. let r = in-run s.assigned.ib asks.ib b t in
      let k = is.core.instructions in
      held-bit i b alive hold (omega (arith, r.1, k.high)) (k.free b r.1 r.0))
      (λ t. let u : in_run (run_of s.assigned.db asks.db) b ≡ true = rw t at new in
      let r = in-run s.assigned.db asks.db b u in
      let k = (is.core.data-run (omega (arith, r.0, r.1))).run in
      held-bit i b alive hold (omega (arith, r.1, k.high)) (k.free b r.1 r.0))

  -- units that are free and unmarked
  pub units-fit : (c u : ℕ) → c < 16 → u < 16 → wanted (assignment_of asks s.assigned) c u ≡ true
      → assignable (unit_in lists.units.of c u) ≡ true
  unfolding is_free_of
  units-fit c u h k e =
      let g : is_taken (get_or s.assigned.heads (c * 16 + u) blank) ≡ true =
      sym (get_or-map is_taken s.assigned.heads (c * 16 + u) blank) ∙ e in
      let f = is.only (c * 16 + u) g in
      let a = (both (ltb ((c * 16 + u) % 16) (units_of_kind f.kind (get_or lists.channels ((c * 16 + u) / 16) no_channel)))
      (assignable (unit_in lists.units.of ((c * 16 + u) / 16) ((c * 16 + u) % 16))) f.free).1 in
      let x : (c * 16 + u) / 16 ≡ c = omega arith in
      let y : (c * 16 + u) % 16 ≡ u = omega arith in
      subst (λ (m : ℕ). assignable (unit_in lists.units.of c m) ≡ true) y
      (subst (λ (m : ℕ). assignable (unit_in lists.units.of m ((c * 16 + u) % 16)) ≡ true) x a)
