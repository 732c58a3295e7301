-- The parts of what the calls answer and leave. Nothing here has to be believed: Outcomes, and Rules of packets, say
-- what comes out.
use Rattle.std.specs.Prelude.{ℕ, ◌+◌, ◌*◌, ◌%◌, Bool, true, false, cond, ◌&&◌, List, map, eqb, get_or, None, Some}
use Rattle.std.proofs.Math.Option.{Option, none, some}
use Rattle.units.specs.declared.Holder.{Holder}
use Rattle.units.specs.declared.Holder.TheVariants.{Free, Returning}
use Rattle.units.specs.declared.Unit.{Unit as UnitState}
use Rattle.packets.specs.Rules.{cut, is_at}
use Rattle.packets.specs.State.{freed_at, blank, enlisted, packet_of, place_of, release_all, restatus, set_lock, with_packets}
use Rattle.packets_submit.specs.After.{is_listing}
use Rattle.packets.specs.declared.Answer.{Answer}
use Rattle.packets.specs.declared.Answer.TheVariants.{Started}
use Rattle.packets.specs.State.{Found}
use Rattle.packets.specs.declared.Job.{Job}
use Rattle.packets.specs.State.{Motion}
use Rattle.packets.specs.declared.Packet.{Packet}
use Rattle.packets.specs.declared.Site.{Site}

-- the list after a submission: what is listed joins it
abbrev pub list_after : ℕ → ℕ → List ℕ → List ℕ
list_after f e q = cond (is_listing f) (enlisted q e) q

-- packet p of place j as an entry, each taken below 16
abbrev pub listed_as : ℕ → ℕ → ℕ
listed_as j p = j % 16 * 16 + p % 16

-- the oldest packet that can start, if there is one
abbrev pub found_of : Option ℕ → Found
found_of none = None
found_of (some e) = Some e

-- no packet can start
abbrev pub is_nowhere : Found → Bool
is_nowhere (Some e) = false
is_nowhere None = true

-- the entry of the one that can
abbrev pub entry_in : Found → ℕ
entry_in (Some e) = e
entry_in None = 0

-- the place of what moves
abbrev pub place_in : Motion → ℕ
place_in None = 0
place_in (Some (j, p)) = j

-- its number
abbrev pub packet_no : Motion → ℕ
packet_no None = 0
packet_no (Some (j, p)) = p

-- the answer of a start, by the packets of the place
abbrev pub started_at : List Packet → ℕ → Answer
started_at ps e =
    let q = get_or ps (packet_of e) blank in
    Started (record { place = place_of e; packet = packet_of e; function = q.function; at = q.at })

-- the units after a completion
abbrev pub units_after : List (List UnitState) → ℕ → Site → Bool → ℕ → Bool → List (List UnitState)
units_after units c a breaking j done =
    let shut = cond breaking (set_lock units c a true) units in
    let left = cond done (release_all shut j) shut in
    freed_at left c a

-- the job whose packets at a on channel c are cut
abbrev pub cut_job : Job → ℕ → Site → Job
cut_job job c a = with_packets job (map (restatus (is_at c a) cut) job.packets)

-- what moves is one of these packets, of the job in place j, at a on channel c
abbrev pub moves_in : List Packet → ℕ → ℕ → Site → Motion → Bool
moves_in ps j c a None = false
moves_in ps j c a (Some (k, p)) = eqb k j && is_at c a (get_or ps p blank)

-- who then holds a unit that the job has given back
abbrev pub holder_after : List Packet → ℕ → ℕ → Site → Motion → Holder
holder_after ps j c a m = cond (moves_in ps j c a m) (Returning j) Free
