-- The state that the rules speak of, how it is read, and the stores that change one part of it.
use Rattle.std.specs.Prelude.{Option, Result, ℕ, ◌+◌, ◌*◌, ◌/◌, ◌%◌, Bool, true, false, not, cond, ◌&&◌, ◌||◌, List, [], ◌∷◌, ◌++◌, map, length, get_or, set, ltb, leb, eqb, None, Some}
use Rattle.numbers.specs.declared.Refusal.{Refusal}
use Rattle.numbers.specs.Kinds.{is_drum}
use Rattle.functions.specs.Legal.{legal_of}
use Rattle.units.specs.State.{unit_in, unit_set, is_returning, assignable, fresh_unit}
use Rattle.units.specs.declared.Holder.{Holder}
use Rattle.units.specs.declared.Holder.TheVariants.{Free, Held, Returning}
use Rattle.units.specs.declared.Unit.{Unit as UnitState}
use Rattle.channels.specs.declared.Fitted.{Fitted}
use Rattle.channels.specs.declared.Channel.{Channel}
use Rattle.packets.specs.declared.Status.{Status}
use Rattle.packets.specs.declared.Status.TheVariants.{Blank, Listed, InProgress, Stopping, Ended}
use Rattle.packets.specs.declared.Packet.{Packet}
use Rattle.packets.specs.declared.Site.{Site}
use Rattle.packets.specs.declared.Site.TheVariants.{AtAddress, AtUnit}
use Rattle.packets.specs.declared.JobState.{JobState}
use Rattle.packets.specs.declared.JobState.TheVariants.{Empty, Running, ClosingNormal, ClosingError}
use Rattle.packets.specs.declared.Blocks.{Blocks}
use Rattle.packets.specs.declared.Core.{Core}
use Rattle.packets.specs.declared.Job.{Job}
use Rattle.packets.specs.declared.Carrier.{Carrier}
use Rattle.packets.specs.declared.Assignment.{Assignment}
use Rattle.numbers.specs.Elements.{keep, any, map_from}

-- what a channel has: nothing, or a kind with its n
abbrev pub Fitting : Type 0
Fitting = Option Fitted

-- whether a call is refused, and with which number
abbrev pub Verdict : Type 0
Verdict = Result (Unit {0}) Refusal

-- the oldest packet of a list that can start, as its entry
abbrev pub Found : Type 0
Found = Option ℕ

-- what moves on a channel: nothing, or the packet of a place, as place and packet
abbrev pub Motion : Type 0
Motion = Option (ℕ × ℕ)

-- what each channel has, the codes that set interlock (a word, bit k for code k), the units, the places, the listed
-- packets of all channels in order of submission (a channel's request list is its part of it), and what moves on each
-- channel
pub record State : Type 0 where
  pub channels : List Channel
  pub codes : ℕ
  pub units : List (List UnitState)
  pub jobs : List Job
  pub queue : List ℕ
  pub moving : List Carrier

-- ---- channels

-- what channel c has; there is none past 15
unfoldable pub fitted_on : List Channel → ℕ → Fitting
fitted_on channels c = (get_or channels c (record { has = None })).has

-- the drum, of which there are words and no units
abbrev pub is_drum_of : Fitting → Bool
is_drum_of None = false
is_drum_of (Some on) = is_drum on.kind

unfoldable pub drum_on : List Channel → ℕ → Bool
drum_on channels c = is_drum_of (fitted_on channels c)

-- a channel that is there
abbrev pub is_there_of : Fitting → Bool
is_there_of None = false
is_there_of (Some on) = true

unfoldable pub configured : List Channel → ℕ → Bool
configured channels c = ltb c 16 && is_there_of (fitted_on channels c)

-- a function is legal for the kind of what the channel has
abbrev pub legal_for : Fitting → ℕ → Bool
legal_for None f = false
legal_for (Some on) f = legal_of on.kind f

-- ---- a listed packet, as one number

unfoldable pub entry_of : ℕ → ℕ → ℕ
entry_of j p = j * 16 + p

unfoldable pub place_of : ℕ → ℕ
place_of e = e / 16

unfoldable pub packet_of : ℕ → ℕ
packet_of e = e % 16

-- ---- statuses and job states

abbrev pub is_listed : Status → Bool
is_listed Blank = false
is_listed Listed = true
is_listed InProgress = false
is_listed Stopping = false
is_listed (Ended k) = false

-- listed, in progress or stopping
abbrev pub is_busy : Status → Bool
is_busy Blank = false
is_busy Listed = true
is_busy InProgress = true
is_busy Stopping = true
is_busy (Ended k) = false

abbrev pub is_stopping : Status → Bool
is_stopping Blank = false
is_stopping Listed = false
is_stopping InProgress = false
is_stopping Stopping = true
is_stopping (Ended k) = false

abbrev pub is_running : JobState → Bool
is_running Empty = false
is_running Running = true
is_running ClosingNormal = false
is_running ClosingError = false

abbrev pub is_empty : JobState → Bool
is_empty Empty = true
is_empty Running = false
is_empty ClosingNormal = false
is_empty ClosingError = false

abbrev pub is_closing : JobState → Bool
is_closing Empty = false
is_closing Running = false
is_closing ClosingNormal = true
is_closing ClosingError = true

-- ---- where packets are

-- a unit, and no address
abbrev pub is_unit : Site → Bool
is_unit (AtUnit u) = true
is_unit (AtAddress x) = false

-- the same unit, or the same address
abbrev pub same : Site → Site → Bool
same (AtUnit u) (AtUnit v) = eqb u.0 v.0
same (AtUnit u) (AtAddress y) = false
same (AtAddress x) (AtUnit v) = false
same (AtAddress x) (AtAddress y) = eqb x y

-- ---- packets, by place and number

abbrev pub blank : Packet
blank = record { status = Blank; function = 0; channel = record { 0 = 0 }; at = AtUnit (record { 0 = 0 }) }

abbrev pub no_core : Core
no_core = record { ib = record { start = 0; count = 0 }; db = record { start = 0; count = 0 } }

-- a block of a run
abbrev pub in_run : Blocks → ℕ → Bool
in_run run b = leb run.start b && ltb b (run.start + run.count)

-- no place of the cell
abbrev pub no_job : Job
no_job = record { state = Empty; packets = []; from = 0; words = 0; core = no_core }

abbrev pub with_status : Packet → Status → Packet
with_status p t = record { status = t; function = p.function; channel = p.channel; at = p.at }

abbrev pub with_packets : Job → List Packet → Job
with_packets j ps = record { state = j.state; packets = ps; from = j.from; words = j.words; core = j.core }

abbrev pub with_state : Job → JobState → Job
with_state j t = record { state = t; packets = j.packets; from = j.from; words = j.words; core = j.core }

abbrev pub job_in : List Job → ℕ → Job
job_in jobs j = get_or jobs j no_job

abbrev pub packets_in : List Job → ℕ → List Packet
packets_in jobs j = (job_in jobs j).packets

unfoldable pub packet_in : List Job → ℕ → ℕ → Packet
packet_in jobs j p = get_or (job_in jobs j).packets p blank

unfoldable pub state_in : List Job → ℕ → JobState
state_in jobs j = (job_in jobs j).state

-- packet p of the job in place j is now this
unfoldable pub put : List Job → ℕ → ℕ → Packet → List Job
put jobs j p q = set jobs j (with_packets (job_in jobs j) (set (job_in jobs j).packets p q))

-- a packet that passes the test gets its status changed
abbrev pub restatus : (Packet → Bool) → (Status → Status) → Packet → Packet
restatus t f p = with_status p (cond (t p) (f p.status) p.status)

-- the same for each packet of the job in place j
unfoldable pub restatus_all : List Job → ℕ → (Packet → Bool) → (Status → Status) → List Job
restatus_all jobs j t f = set jobs j (with_packets (job_in jobs j) (map (restatus t f) (job_in jobs j).packets))

unfoldable pub set_state : List Job → ℕ → JobState → List Job
set_state jobs j t = set jobs j (with_state (job_in jobs j) t)

-- the packet that an entry of the list names is listed
abbrev pub is_still : List Job → ℕ → Bool
is_still jobs e = is_listed (packet_in jobs (place_of e) (packet_of e)).status

-- an entry stays unless it names a packet of place j, whose packets are these, that is not listed
abbrev pub is_kept : ℕ → List Packet → ℕ → Bool
is_kept j ps e = not (eqb (place_of e) j) || is_listed (get_or ps (packet_of e) blank).status

-- the list without those packets of place j that are no longer listed
unfoldable pub relist : ℕ → List Packet → List ℕ → List ℕ
relist j ps q = keep (is_kept j ps) q

-- the list with one more at its end, where there is room (there always is: no packet is listed twice)
unfoldable pub enlisted : List ℕ → ℕ → List ℕ
enlisted q e = cond (ltb (length q) 256) (q ++ (e ∷ [])) q

-- ---- units, by channel and number

abbrev pub with_lock : UnitState → Bool → UnitState
with_lock v b = record { holder = v.holder; down = v.down; reserved = v.reserved; interlock = b }

-- the unit that a packet is at; on the drum there is none: a free one, without interlock
abbrev pub unit_at : List (List UnitState) → ℕ → Site → UnitState
unit_at units c (AtUnit u) = unit_in units c u.0
unit_at units c (AtAddress x) = fresh_unit false

-- its interlock set or cleared; the drum has none
abbrev pub set_lock : List (List UnitState) → ℕ → Site → Bool → List (List UnitState)
set_lock units c (AtUnit u) b = unit_set units c u.0 (with_lock (unit_in units c u.0) b)
set_lock units c (AtAddress x) b = units

-- the job in place j holds it; one that is being returned is held until then
abbrev pub held_by : Holder → ℕ → Bool
held_by Free j = false
held_by (Held k) j = eqb k j
held_by (Returning k) j = eqb k j

abbrev pub with_holder : UnitState → Holder → UnitState
with_holder v h = record { holder = h; down = v.down; reserved = v.reserved; interlock = v.interlock }

-- the unit at a on channel c has another holder; the drum has none
abbrev pub set_holder : List (List UnitState) → ℕ → Site → Holder → List (List UnitState)
set_holder units c (AtUnit u) h = unit_set units c u.0 (with_holder (unit_in units c u.0) h)
set_holder units c (AtAddress x) h = units

-- it is free again if it is being returned
abbrev pub freed_at : List (List UnitState) → ℕ → Site → List (List UnitState)
freed_at units c a = cond (is_returning (unit_at units c a).holder) (set_holder units c a Free) units

-- a unit that the job in place j holds is free again
abbrev pub release : ℕ → UnitState → UnitState
release j v = with_holder v (cond (held_by v.holder j) Free v.holder)

unfoldable pub release_all : List (List UnitState) → ℕ → List (List UnitState)
release_all units j = map (map (release j)) units

-- a unit that is wanted and assignable is held by the job in place j, without interlock
abbrev pub take_unit : ℕ → Bool → UnitState → UnitState
take_unit j wanted v =
    cond (wanted && assignable v) (record { holder = Held j; down = v.down; reserved = v.reserved; interlock = false }) v

-- an assignment has unit u of channel c
abbrev pub wanted : Assignment → ℕ → ℕ → Bool
wanted asg c u = get_or asg.units (c * 16 + u) false

unfoldable pub take_all : List (List UnitState) → ℕ → (ℕ → ℕ → Bool) → List (List UnitState)
take_all units j wants = map_from 0 (λ c row. map_from 0 (λ u v. take_unit j (wants c u) v) row) units

-- ---- what moves

abbrev pub carrying : Motion → Carrier
carrying m = record { motion = m }

abbrev pub motion_on : State → ℕ → Motion
motion_on s c = (get_or s.moving c (carrying None)).motion

-- nothing moves; what is no packet of the cell's 16 places is nothing
abbrev pub is_idle : Motion → Bool
is_idle None = true
is_idle (Some (j, p)) = not (ltb j 16 && ltb p 16)

-- the status of what moves
abbrev pub moving_status : State → Motion → Status
moving_status s None = Blank
moving_status s (Some (j, p)) = (packet_in s.jobs j p).status

-- a packet of the job in place j moves
abbrev pub moves : ℕ → Motion → Bool
moves j None = false
moves j (Some (k, p)) = eqb k j

abbrev pub any_moves : ℕ → List Carrier → Bool
any_moves j moving = any (λ (m : Carrier). moves j m.motion) moving

-- ---- the stores that the rules are made of

-- packet p of place j is now this; what is no longer listed leaves the list
abbrev pub store : State → ℕ → ℕ → Packet → State
store s j p q =
    let after = put s.jobs j p q in
    record {
      channels = s.channels;
      codes = s.codes;
      units = s.units;
      moving = s.moving;
      jobs = after;
      queue = relist j (packets_in after j) s.queue;
    }

-- the packets of place j that pass the test change their status; what is no longer listed leaves the list
abbrev pub sweep : State → ℕ → (Packet → Bool) → (Status → Status) → State
sweep s j t f =
    let after = restatus_all s.jobs j t f in
    record {
      channels = s.channels;
      codes = s.codes;
      units = s.units;
      moving = s.moving;
      jobs = after;
      queue = relist j (packets_in after j) s.queue;
    }

-- packet p of place j is the youngest of the list
abbrev pub enqueue : State → ℕ → ℕ → State
enqueue s j p =
    record {
      channels = s.channels;
      codes = s.codes;
      units = s.units;
      moving = s.moving;
      jobs = s.jobs;
      queue = enlisted s.queue (entry_of j p);
    }

-- the interlock at a on channel c is set or cleared
abbrev pub lock : State → ℕ → Site → Bool → State
lock s c a b =
    record { channels = s.channels; codes = s.codes; units = set_lock s.units c a b; moving = s.moving; jobs = s.jobs; queue = s.queue }

-- who holds the unit at a on channel c
abbrev pub hold : State → ℕ → Site → Holder → State
hold s c a h =
    record { channels = s.channels; codes = s.codes; units = set_holder s.units c a h; moving = s.moving; jobs = s.jobs; queue = s.queue }

-- what moves on channel c
abbrev pub move : State → ℕ → Motion → State
move s c m =
    record {
      channels = s.channels;
      codes = s.codes;
      units = s.units;
      moving = set s.moving c (carrying m);
      jobs = s.jobs;
      queue = s.queue;
    }

-- the state of the job in place j
abbrev pub close : State → ℕ → JobState → State
close s j t =
    record { channels = s.channels; codes = s.codes; units = s.units; moving = s.moving; jobs = set_state s.jobs j t; queue = s.queue }

abbrev pub in_motion : Status → Bool
in_motion Blank = false
in_motion Listed = false
in_motion InProgress = true
in_motion Stopping = true
in_motion (Ended k) = false

-- packet p of place j
abbrev pub is_packet : ℕ → ℕ → ℕ → ℕ → Bool
is_packet j p i n = eqb i j && eqb n p
