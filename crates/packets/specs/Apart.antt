-- Areas of drum are disjoint, and so is core, if each job was taken with words and blocks that no other job held. A
-- reader has to believe this page.
use Rattle.std.specs.Prelude.{ℕ, ◌≡◌, Bool, true, false, ◌||◌, List}
use Rattle.packets.specs.History.{Along, Event, Reached}
use Rattle.packets.specs.Rules.{Call, Do, Take, fresh_job, in_area}
use Rattle.packets.specs.State.{State, is_empty, in_run, job_in, state_in}
use Rattle.packets.specs.declared.Job.{Job}

-- a block of a job's core
abbrev pub in_core : Job → ℕ → Bool
in_core job b = in_run job.core.ib b || in_run job.core.db b

-- words of the drum (in_area), or blocks of core (in_core)
abbrev pub Part : Type 0
Part = Job → ℕ → Bool

-- no two jobs hold the same one
abbrev pub Apart : Part → State → Type 0
Apart part s =
    (i j x : ℕ) → is_empty (state_in s.jobs i) ≡ false → is_empty (state_in s.jobs j) ≡ false
    → part (job_in s.jobs i) x ≡ true → part (job_in s.jobs j) x ≡ true → i ≡ j

-- a taking is given what no job holds
abbrev pub Fits : Part → State → Call → Type 0
Fits part s (Take j asg) =
    (i x : ℕ) → is_empty (state_in s.jobs i) ≡ false → part (job_in s.jobs i) x ≡ true → part (fresh_job asg) x ≡ true → ⊥
Fits part s (Do x) = Unit {0}

-- so is each accepted taking of a history
abbrev pub Fitting : Part → State → List Event → Type 0
Fitting part s l = Along (λ before x after. Fits part before x) s l

abbrev pub Disjoint : Type 0
Disjoint =
    (l : List Event) (s : State) (r : Reached l s)
    → (Fitting in_area r.from l → Apart in_area s) × (Fitting in_core r.from l → Apart in_core s)
