-- A change of the statuses of one job's packets: which packets it is for, and what becomes of them; one packet's
-- status; a new job. Nothing here has to be believed: Rules of packets says what comes out.
use Rattle.std.specs.Prelude.{ℕ, Bool, List, get_or, set, replicate}
use Rattle.packets.specs.Rules.{aimed, always, cut, failed, is_at}
use Rattle.packets.specs.State.{blank, with_status}
use Rattle.packets.specs.declared.Aim.{Aim}
use Rattle.packets.specs.declared.Aim.TheVariants.{Closing, Cutting, Failing}
use Rattle.packets.specs.declared.Core.{Core}
use Rattle.packets.specs.declared.Job.{Job}
use Rattle.packets.specs.declared.JobState.TheVariants.{Running}
use Rattle.packets.specs.declared.Packet.{Packet}
use Rattle.packets.specs.declared.Site.TheVariants.{AtUnit}
use Rattle.packets.specs.declared.Status.{Status}

-- which packets it is for
abbrev pub test_of : Aim → Packet → Bool
test_of (Failing c u) = is_at c.0 (AtUnit u)
test_of (Cutting c w) = aimed c.0 w
test_of Closing = always

-- what becomes of their status
abbrev pub change_of : Aim → Status → Status
change_of (Failing c u) = failed
change_of (Cutting c w) = cut
change_of Closing = cut

-- packet p of these in another status
abbrev pub status_set : List Packet → ℕ → Status → List Packet
status_set ps p t = set ps p (with_status (get_or ps p blank) t)

-- a job that has just been taken
abbrev pub taken_job : ℕ → ℕ → Core → Job
taken_job from words core = record { state = Running; packets = replicate 16 blank; from = from; words = words; core = core }
