-- What a completion and a job's end make of the job, part by part. Nothing here has to be believed: Rules of packets
-- says what comes out.
use Rattle.std.specs.Prelude.{ℕ, Bool, true, false, not, cond, ◌&&◌, List, map, get_or}
use Rattle.packets.specs.Rules.{always, closing, code_for, cut, failed, is_at, leaving_as}
use Rattle.packets.specs.State.{any_moves, blank, is_closing, restatus, with_packets, with_state}
use Rattle.packets.specs.declared.Carrier.{Carrier}
use Rattle.packets.specs.declared.Ending.{Ending}
use Rattle.packets.specs.declared.How.{How}
use Rattle.packets.specs.declared.Job.{Job}
use Rattle.packets.specs.declared.JobState.TheVariants.{Empty}
use Rattle.packets.specs.declared.Leaving.TheVariants.{Stays}
use Rattle.packets.specs.declared.Packet.{Packet}
use Rattle.packets.specs.declared.Site.{Site}
use Rattle.packets.specs.declared.Site.TheVariants.{AtAddress, AtUnit}
use Rattle.packets.specs.declared.Status.TheVariants.{Ended}
use Rattle.packets_job.specs.Aims.{status_set}

-- the listed packets of a unit end with 01
abbrev pub broken_for : List Packet → ℕ → Site → List Packet
broken_for ps c (AtUnit u) = map (restatus (is_at c (AtUnit u)) failed) ps
broken_for ps c (AtAddress x) = ps

-- packet p has ended; where that breaks the unit, its listed packets end with 01
abbrev pub over_packets : List Packet → ℕ → How → ℕ → Bool → List Packet
over_packets ps p how c breaking =
    let ended = status_set ps p (Ended (code_for how)) in
    cond breaking (broken_for ended c (get_or ps p blank).at) ended

-- the job then
abbrev pub over_job : Job → ℕ → How → ℕ → Bool → Job
over_job job p how c breaking = with_packets job (over_packets job.packets p how c breaking)

-- the job is closing: listed packets get 16o, those in progress become stopping
abbrev pub closed_job : Job → Bool → Job
closed_job job e = with_state (with_packets job (map (restatus always cut) job.packets)) (closing e)

-- a closing job of which nothing moves leaves the place empty
abbrev pub ending_if : Bool → Job → Ending
ending_if true job = record { job = with_state job Empty; done = true; leaving = leaving_as job.state }
ending_if false job = record { job = job; done = false; leaving = Stays }

-- the same of a job, by what moves
abbrev pub ending_of : Job → List Carrier → ℕ → Ending
ending_of job moving j = ending_if (is_closing job.state && not (any_moves j moving)) job
