-- The calls by the index of the request, as the code goes about them. Nothing on this page has to be believed:
-- contracts and proofs cite it, and proofs/ByIndexLaws shows that it comes to the same as page Calls.
use Rattle.std.specs.Prelude.{ℕ, Bool, cond, ◌&&◌, List, leb}
use Rattle.numbers.specs.declared.Refusal.TheVariants.{NoSuchRequest, JobRuns}
use Rattle.schedule_entries.specs.Entries.{is_named, suspended, active}
use Rattle.schedule_entries.specs.declared.State.TheVariants.{Waiting, Suspended}
use Rattle.schedule_entries.specs.declared.Entry.{Entry}
use Rattle.schedule_list.specs.InSchedule.{in_schedule, schedule_of, entry_at, there, with_state}
use Rattle.schedule_list.specs.Queries.{first, without}
use Rattle.schedule_list.specs.declared.Schedule.{Schedule}
use Rattle.schedule.specs.Calls.{is_in, refused, done}
use Rattle.schedule.specs.declared.Changed.{Changed}

-- the index of the request of an ID, and of that whose job is in a place; the number of requests if there is none
abbrev pub of_name : List ℕ → List Entry → ℕ
of_name id es = first (is_named id) es

abbrev pub of_job : ℕ → List Entry → ℕ
of_job place es = first (is_in place) es

-- release, delete and a job's return, the request at an index
unfoldable pub released_at : ℕ → Schedule → Changed
released_at k s =
    cond (there k (in_schedule s) && suspended (entry_at (in_schedule s) k).state)
    (done (schedule_of (with_state k Waiting (in_schedule s))))
    (refused NoSuchRequest s)

unfoldable pub deleted_at : ℕ → Schedule → Changed
deleted_at k s =
    cond (there k (in_schedule s))
    (cond (active (entry_at (in_schedule s) k).state) (refused JobRuns s) (done (schedule_of (without k (in_schedule s)))))
    (refused NoSuchRequest s)

unfoldable pub returned_at : ℕ → Schedule → Bool → Schedule
returned_at k s in_error =
    cond (there k (in_schedule s))
    (cond (in_error && leb 1 (entry_at (in_schedule s) k).request.sequence)
    (schedule_of (with_state k Suspended (in_schedule s)))
    (schedule_of (without k (in_schedule s))))
    s
