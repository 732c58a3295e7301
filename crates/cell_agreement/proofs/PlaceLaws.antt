-- There is no job past the last place. Assumes nothing.
use Prim.Native.Nat.{ℕ, ◌≤◌}
use mathlib.Core.Path.{◌≡◌, ap}
use lib.ListN.{length, get_or-eq_default}
use Rattle.packets.proofs.Inv.{Inv}
use Rattle.packets.specs.State.{State, no_job, state_in}
use Rattle.packets.specs.declared.Job.{Job}
use Rattle.packets.specs.declared.JobState.TheVariants.{Empty}

-- there is no job past the last place
pub states-beyond : (s : State) → Inv s → (j : ℕ) → 16 ≤ j → state_in s.jobs j ≡ Empty
unfolding state_in
states-beyond s I j h =
    let g : length s.jobs ≤ j = rw I.places h in
    ap (λ (k : Job). k.state) (get_or-eq_default s.jobs no_job g)
