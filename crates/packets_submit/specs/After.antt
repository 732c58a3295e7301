-- What an accepted submission makes of the job, part by part. Nothing here has to be believed: Rules of packets says
-- what comes out.
use Rattle.std.specs.Prelude.{ℕ, Bool, not, cond, ◌&&◌, List, map, eqb, set}
use Rattle.packets.specs.Rules.{aimed, cut, failed, is_at, packet, site_of}
use Rattle.packets.specs.State.{restatus, with_packets}
use Rattle.packets.specs.declared.Job.{Job}
use Rattle.packets.specs.declared.Packet.{Packet}
use Rattle.packets.specs.declared.Site.{Site}
use Rattle.packets.specs.declared.Site.TheVariants.{AtUnit}
use Rattle.packets.specs.declared.Spot.{Spot}
use Rattle.packets.specs.declared.Spot.TheVariants.{OnDrum, OnUnit}
use Rattle.packets.specs.declared.Status.TheVariants.{Ended, Listed}

-- any function but 07 and 23 is listed
abbrev pub is_listing : ℕ → Bool
is_listing f = not (eqb f 0o07) && not (eqb f 0o23)

-- 07 has an interlock to remove
abbrev pub is_unlocking : ℕ → Bool → Bool
is_unlocking f lock = eqb f 0o07 && lock

-- the packet itself: listed, or ended with 00
abbrev pub made_for : ℕ → ℕ → Site → Packet
made_for f c a = packet (cond (is_listing f) Listed (Ended 0o00)) f c a

-- 07 under interlock, which only a unit has, ends the unit's listed packets with 01
abbrev pub unlocked_for : List Packet → ℕ → Spot → List Packet
unlocked_for ps c (OnUnit u) = map (restatus (is_at c (AtUnit u)) failed) ps
unlocked_for ps c (OnDrum l h) = ps

-- the job's others after that, or after 23, which ends those that it is for with 16o
abbrev pub swept_for : List Packet → ℕ → ℕ → Spot → Bool → List Packet
swept_for ps f c w unlocking = cond unlocking (unlocked_for ps c w) (cond (eqb f 0o23) (map (restatus (aimed c w) cut) ps) ps)

-- the job then
abbrev pub job_after : Job → ℕ → ℕ → ℕ → Spot → Bool → Job
job_after job p f c w unlocking = with_packets job (set (swept_for job.packets f c w unlocking) p (made_for f c (site_of w)))
