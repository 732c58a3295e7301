-- Document 01, 'Packets and request lists' and 'Refused calls', as rules, with requests 3 and 5 of document 02 in them:
-- what each call is refused for, what it leaves, what it answers. A reader has to believe this page. Codes are octal.
use Rattle.std.specs.Prelude.{ℕ, ◌+◌, Bool, true, false, not, cond, ◌&&◌, ◌||◌, List, get_or, set, replicate, ltb, leb, eqb, Err, None, Ok, Some}
use Rattle.std.proofs.Math.Option.{Option, none, some}
use Rattle.numbers.specs.Kinds.{is_drum}
use Rattle.numbers.specs.declared.Refusal.{Refusal}
use Rattle.numbers.specs.declared.Refusal.TheVariants.{
  OutOfRange,
  NoJob,
  NotTheJobs,
  NotLegal,
  PacketInUse,
  ChannelBusy,
  NothingStartable,
  NothingInProgress,
  WrongCompletion,
  NoPlaceFree,
  BeingReturned,
}
use Rattle.units.specs.State.{unit_in, unit_set, is_returning, marked_unit}
use Rattle.units.specs.declared.Holder.{Holder}
use Rattle.units.specs.declared.Holder.TheVariants.{Free, Returning}
use Rattle.units.specs.declared.Unit.{Unit as UnitState}
use Rattle.units.specs.declared.Mark.{Mark as UnitMark}
use Rattle.channels.specs.Channels.{sets_interlock}
use Rattle.packets.specs.declared.Status.{Status}
use Rattle.packets.specs.declared.Status.TheVariants.{Blank, Listed, InProgress, Stopping, Ended}
use Rattle.packets.specs.declared.Packet.{Packet}
use Rattle.packets.specs.declared.JobState.{JobState}
use Rattle.packets.specs.declared.JobState.TheVariants.{Empty, Running, ClosingNormal, ClosingError}
use Rattle.packets.specs.declared.Job.{Job}
use Rattle.packets.specs.declared.Spot.{Spot}
use Rattle.packets.specs.declared.Spot.TheVariants.{OnUnit, OnDrum}
use Rattle.packets.specs.declared.Site.{Site}
use Rattle.packets.specs.declared.Site.TheVariants.{AtUnit, AtAddress}
use Rattle.packets.specs.declared.How.{How}
use Rattle.packets.specs.declared.How.TheVariants.{Full, Cut, Failed}
use Rattle.packets.specs.declared.Act.{Act}
use Rattle.packets.specs.declared.Act.TheVariants.{Submit, Start, Complete, End, Return, Mark}
use Rattle.packets.specs.declared.Assignment.{Assignment}
use Rattle.packets.specs.declared.Leaving.{Leaving}
use Rattle.packets.specs.declared.Leaving.TheVariants.{Stays, AfterNormal, AfterError}
use Rattle.packets.specs.declared.Answer.{Answer}
use Rattle.packets.specs.declared.Answer.TheVariants.{Done, Started, Completed, Closed, Refused}
use Rattle.numbers.specs.Elements.{find}
use Rattle.packets.specs.State.{
  State,
  Fitting,
  Motion,
  Verdict,
  fitted_on,
  configured,
  legal_for,
  place_of,
  packet_of,
  is_busy,
  is_stopping,
  is_running,
  is_empty,
  is_closing,
  blank,
  with_status,
  job_in,
  packet_in,
  state_in,
  set_state,
  held_by,
  is_unit,
  same,
  unit_at,
  freed_at,
  release_all,
  take_all,
  wanted,
  motion_on,
  moving_status,
  is_idle,
  any_moves,
  store,
  sweep,
  enqueue,
  lock,
  hold,
  move,
  close,
}

-- ---- the calls

pub data Call : Type 0 where
  -- a job is taken into a place with an assignment
  Take : ℕ → Assignment → Call
  -- a submission names place, packet, function, channel and unit or address; a start and a completion name the channel;
  -- the job in a place ends (true: in error), or gives a unit back (02, request 5); a mark is set (true) or cleared
  Do : Act → Call

-- the unit, or the address X or L
abbrev pub site_of : Spot → Site
site_of (OnUnit u) = AtUnit u
site_of (OnDrum x h) = AtAddress x

-- ---- submission

-- a unit, 0 to 15, that the channel has; on the drum channel any address (it is never out of range, only not the
-- job's)
abbrev pub reaches : Fitting → Spot → Bool
reaches None w = false
reaches (Some on) (OnUnit u) = not (is_drum on.kind) && (ltb u.0 16 && ltb u.0 on.n)
reaches (Some on) (OnDrum x h) = is_drum on.kind

-- an address X inside the job's area
abbrev pub in_area : Job → ℕ → Bool
in_area job x = leb job.from x && ltb x (job.from + job.words)

-- the unit or drum address is the job's; for 23 on the drum having an area is enough
abbrev pub is_own : Job → Holder → ℕ → ℕ → Spot → Bool
is_own job holder j f (OnUnit u) = held_by holder j
is_own job holder j f (OnDrum x h) = cond (eqb f 0o23) (ltb 0 job.words) (in_area job x)

abbrev pub packet : Status → ℕ → ℕ → Site → Packet
packet t f c a = record { status = t; function = f; channel = record { 0 = c }; at = a }

-- an ordinary function: the packet is listed, as the youngest; packets submitted during interlock stay listed
abbrev pub enlist : State → ℕ → ℕ → ℕ → ℕ → Site → State
enlist s j p f c a = enqueue (store s j p (packet Listed f c a)) j p

-- a packet is at a on channel c
abbrev pub is_at : ℕ → Site → Packet → Bool
is_at c a p = eqb p.channel.0 c && same p.at a

-- what a failure that sets interlock, or 07 under interlock, does: a listed packet ends with 01
abbrev pub failed : Status → Status
failed Blank = Blank
failed Listed = Ended 0o01
failed InProgress = InProgress
failed Stopping = Stopping
failed (Ended k) = Ended k

-- interlock, which the drum never has
abbrev pub locked : State → ℕ → Site → Bool
locked s c a = (unit_at s.units c a).interlock

-- 07 on the drum, or without interlock, only ends with 00
abbrev pub pass : State → ℕ → ℕ → ℕ → ℕ → Site → State
pass s j p f c a = store s j p (packet (Ended 0o00) f c a)

-- 07 under interlock ends the unit's listed packets with 01, clears the interlock and ends itself with 00
abbrev pub unlock : State → ℕ → ℕ → ℕ → ℕ → Site → State
unlock s j p f c a = pass (lock (sweep s j (is_at c a) failed) c a false) j p f c a

-- what 23, a unit's return or the job's end does: a listed packet ends with 16o, one in progress is stopping
abbrev pub cut : Status → Status
cut Blank = Blank
cut Listed = Ended 0o16
cut InProgress = Stopping
cut Stopping = Stopping
cut (Ended k) = Ended k

-- 23 is for that unit; on the drum it takes those with L ≤ X ≤ H, none if L > H
abbrev pub covers : Spot → Site → Bool
covers (OnUnit u) a = same a (AtUnit u)
covers (OnDrum l h) (AtUnit u) = false
covers (OnDrum l h) (AtAddress x) = leb l x && leb x h

abbrev pub aimed : ℕ → Spot → Packet → Bool
aimed c w p = eqb p.channel.0 c && covers w p.at

-- 23 ends the job's listed packets there with 16o, makes one in progress stopping, and ends with 00; it doesn't touch
-- interlock
abbrev pub terminate : State → ℕ → ℕ → ℕ → ℕ → Spot → State
terminate s j p f c w = pass (sweep s j (aimed c w) cut) j p f c (site_of w)

-- 07 remove logical interlock, 23 terminate, any other function is listed
abbrev pub submitted : State → ℕ → ℕ → ℕ → ℕ → Spot → State
submitted s j p f c w =
    let a = site_of w in
    cond (eqb f 0o07) (cond (locked s c a) (unlock s j p f c a) (pass s j p f c a))
    (cond (eqb f 0o23) (terminate s j p f c w) (enlist s j p f c a))

-- ---- start

-- a listed packet on channel c whose unit has no interlock
abbrev pub startable_on : List (List UnitState) → List Job → ℕ → ℕ → Bool
startable_on units jobs c e =
    let p = packet_in jobs (place_of e) (packet_of e) in
    eqb p.channel.0 c && not (unit_at units c p.at).interlock

abbrev pub startable : State → ℕ → ℕ → Bool
startable s c e = startable_on s.units s.jobs c e

-- the packet is in progress
abbrev pub begun : State → ℕ → ℕ → State
begun s c e =
    move (store s (place_of e) (packet_of e) (with_status (packet_in s.jobs (place_of e) (packet_of e)) InProgress)) c
    (Some (place_of e, packet_of e))

-- start takes the oldest such packet
abbrev pub started : State → ℕ → Option ℕ → State
started s c none = s
started s c (some e) = begun s c e

-- it answers the packet's place, number, function and unit or address
abbrev pub begins : State → Option ℕ → Answer
begins s none = Done
begins s (some e) =
    let p = packet_in s.jobs (place_of e) (packet_of e) in
    Started (record { place = place_of e; packet = packet_of e; function = p.function; at = p.at })

-- ---- ends and returns

-- a closing job of which nothing moves is done
abbrev pub is_done : State → ℕ → Bool
is_done s j = is_closing (state_in s.jobs j) && not (any_moves j s.moving)

-- all facilities that it still has return together; the packets keep their statuses until the next job is taken there
abbrev pub returned : State → ℕ → State
returned s j =
    record {
      channels = s.channels;
      codes = s.codes;
      queue = s.queue;
      moving = s.moving;
      units = release_all s.units j;
      jobs = set_state s.jobs j Empty;
    }

abbrev pub return_if_done : ℕ → State → State
return_if_done j s = cond (is_done s j) (returned s j) s

-- what the schedule has to know: after which end the facilities returned
abbrev pub leaving_as : JobState → Leaving
leaving_as Empty = Stays
leaving_as Running = Stays
leaving_as ClosingNormal = AfterNormal
leaving_as ClosingError = AfterError

abbrev pub leaving : ℕ → State → Leaving
leaving j s = cond (is_done s j) (leaving_as (state_in s.jobs j)) Stays

-- ---- completion

-- full (00), cut (17o) or failed with a code
abbrev pub code_for : How → ℕ
code_for Full = 0o00
code_for Cut = 0o17
code_for (Failed k) = k

-- a failure with one of "the codes that set interlock"
abbrev pub is_trouble : ℕ → How → Bool
is_trouble codes Full = false
is_trouble codes Cut = false
is_trouble codes (Failed k) = sets_interlock codes k

-- packet p of place j, in progress or stopping on channel c, has ended with a code
abbrev pub over : State → ℕ → ℕ → ℕ → ℕ → State
over s c j p k = store (move s c None) j p (with_status (packet_in s.jobs j p) (Ended k))

-- a failure with one of those codes on a unit other than the drum sets its interlock and ends that unit's listed packets
-- with 01
abbrev pub broken : State → ℕ → Site → ℕ → State
broken s c a j = lock (sweep s j (is_at c a) failed) c a true

-- "Any other failure code sets none and ends no listed packet"
abbrev pub finished : State → ℕ → How → ℕ → ℕ → State
finished s c how j p =
    let a = (packet_in s.jobs j p).at in
    cond (is_trouble s.codes how && is_unit a) (broken (over s c j p (code_for how)) c a j) (over s c j p (code_for how))

-- a unit that is being returned "is free when that completion comes"
abbrev pub free_if_returning : State → ℕ → Site → State
free_if_returning s c a =
    record {
      channels = s.channels;
      codes = s.codes;
      queue = s.queue;
      moving = s.moving;
      jobs = s.jobs;
      units = freed_at s.units c a;
    }

abbrev pub completed : State → ℕ → How → Motion → State
completed s c how None = s
completed s c how (Some (j, p)) = free_if_returning (return_if_done j (finished s c how j p)) c (packet_in s.jobs j p).at

-- a completion answers the place and number of the packet it ends, and whether the facilities returned
abbrev pub completes : State → ℕ → How → Motion → Answer
completes s c how None = Done
completes s c how (Some (j, p)) = Completed j p (leaving j (finished s c how j p))

-- ---- a job's end

-- normally or in error
abbrev pub closing : Bool → JobState
closing false = ClosingNormal
closing true = ClosingError

abbrev pub always : Packet → Bool
always p = true

-- it is then closing: listed packets get 16o, those in progress become stopping
abbrev pub closed : State → ℕ → Bool → State
closed s j e = close (sweep s j always cut) j (closing e)

-- when none is left, at once or at the last completion, all facilities that it still has return together
abbrev pub ended : State → ℕ → Bool → State
ended s j e = return_if_done j (closed s j e)

-- ---- one head back early (02, request 5)

-- a packet of the job in place j is in progress or stopping at a on channel c
abbrev pub moves_at : State → ℕ → ℕ → Site → Motion → Bool
moves_at s j c a None = false
moves_at s j c a (Some (k, p)) = eqb k j && is_at c a (packet_in s.jobs j p)

-- the return "ends that unit's listed packets with 16 octal and makes one in progress stopping"; the unit is being
-- returned while that moves, and free "at once if nothing moves". It doesn't touch interlock
abbrev pub handed_back : State → ℕ → ℕ → Site → State
handed_back s j c a = hold (sweep s j (is_at c a) cut) c a (cond (moves_at s j c a (motion_on s c)) (Returning j) Free)

-- ---- taking a job, and marks

-- its 16 packets blank, its drum area and core
abbrev pub fresh_job : Assignment → Job
fresh_job asg = record { state = Running; packets = replicate 16 blank; from = asg.from; words = asg.words; core = asg.core }

-- its units without interlock
abbrev pub assigned : State → ℕ → Assignment → State
assigned s j asg =
    record {
      channels = s.channels;
      codes = s.codes;
      queue = s.queue;
      moving = s.moving;
      units = take_all s.units j (wanted asg);
      jobs = set s.jobs j (fresh_job asg);
    }

-- the two marks are independent
abbrev pub marked : State → ℕ → ℕ → UnitMark → Bool → State
marked s c u m on =
    record {
      channels = s.channels;
      codes = s.codes;
      queue = s.queue;
      moving = s.moving;
      jobs = s.jobs;
      units = unit_set s.units c u (marked_unit m on (unit_in s.units c u));
    }

-- ---- refused calls: the lowest number answers, but 21 comes after 3

-- refused with this if the test holds, else what the later tests say
abbrev pub first : Bool → Refusal → Verdict → Verdict
first true n r = Err n
first false n r = r

-- cut for a packet not stopping; failure code 00, 01, 16o, 17o or over 77o
abbrev pub is_wrong : Status → How → Bool
is_wrong t Full = false
is_wrong t Cut = not (is_stopping t)
is_wrong t (Failed k) = eqb k 0o00 || (eqb k 0o01 || (eqb k 0o16 || (eqb k 0o17 || ltb 0o77 k)))

-- nothing startable
abbrev pub is_none : Option ℕ → Bool
is_none none = true
is_none (some e) = false

-- place, channel, unit, packet or function number out of range, or channel or unit not configured
abbrev pub in_range : Fitting → ℕ → ℕ → ℕ → ℕ → Spot → Bool
in_range has j p f c w = ltb j 16 && (ltb p 16 && (ltb f 64 && (ltb c 16 && reaches has w)))

-- a submission, by what the channel has, the job in the place and the unit
abbrev pub submit_refusal : Fitting → Job → UnitState → ℕ → ℕ → ℕ → ℕ → Spot → Verdict
submit_refusal has job unit j p f c w =
    first (not (in_range has j p f c w)) OutOfRange
    (first (not (is_running job.state)) NoJob
    (first (not (is_own job unit.holder j f w)) NotTheJobs
    (first (is_returning unit.holder) BeingReturned
    (first (not (legal_for has f)) NotLegal
    (first (is_busy (get_or job.packets p blank).status) PacketInUse
    (Ok tt))))))

-- a return, by what the channel has, the job's state and the unit; the drum channel has no unit
abbrev pub return_refusal : Fitting → JobState → UnitState → ℕ → ℕ → ℕ → Verdict
return_refusal has state head j c u =
    first (not (ltb j 16 && (ltb c 16 && reaches has (OnUnit (record { 0 = u }))))) OutOfRange
    (first (not (is_running state)) NoJob
    (first (not (held_by head.holder j)) NotTheJobs
    (first (is_returning head.holder) BeingReturned
    (Ok tt))))

unfoldable pub refusal : State → Call → Verdict
-- a job is taken into a place that is free; 18 is for any other, which no selection names (it is shown of each)
refusal s (Take j asg) = first (not (ltb j 16 && is_empty (state_in s.jobs j))) NoPlaceFree (Ok tt)
refusal s (Do (Submit j p f c w)) =
    submit_refusal (fitted_on s.channels c.0) (job_in s.jobs j) (unit_at s.units c.0 (site_of w)) j p f c.0 w
refusal s (Do (Start c)) =
    first (not (configured s.channels c.0)) OutOfRange
    (first (not (is_idle (motion_on s c.0))) ChannelBusy
    (first (is_none (find (startable s c.0) s.queue)) NothingStartable
    (Ok tt)))
refusal s (Do (Complete c how)) =
    first (not (configured s.channels c.0)) OutOfRange
    (first (is_idle (motion_on s c.0)) NothingInProgress
    (first (is_wrong (moving_status s (motion_on s c.0)) how) WrongCompletion
    (Ok tt)))
refusal s (Do (End j e)) =
    first (not (ltb j 16)) OutOfRange
    (first (not (is_running (state_in s.jobs j))) NoJob
    (Ok tt))
refusal s (Do (Return j c u)) = return_refusal (fitted_on s.channels c.0) (state_in s.jobs j) (unit_in s.units c.0 u.0) j c.0 u.0
refusal s (Do (Mark c u m on)) =
    first (not (ltb c.0 16 && reaches (fitted_on s.channels c.0) (OnUnit u))) OutOfRange (Ok tt)

-- ---- what an accepted call leaves, and what it answers

unfoldable pub accept : State → Call → State
accept s (Take j asg) = assigned s j asg
accept s (Do (Submit j p f c w)) = submitted s j p f c.0 w
accept s (Do (Start c)) = started s c.0 (find (startable s c.0) s.queue)
accept s (Do (Complete c how)) = completed s c.0 how (motion_on s c.0)
accept s (Do (End j e)) = ended s j e
accept s (Do (Return j c u)) = handed_back s j c.0 (AtUnit u)
accept s (Do (Mark c u m on)) = marked s c.0 u.0 m on

unfoldable pub answer : State → Call → Answer
answer s (Take j asg) = Done
answer s (Do (Submit j p f c w)) = Done
answer s (Do (Start c)) = begins s (find (startable s c.0) s.queue)
answer s (Do (Complete c how)) = completes s c.0 how (motion_on s c.0)
answer s (Do (End j e)) = Closed j (leaving j (closed s j e))
answer s (Do (Return j c u)) = Done
answer s (Do (Mark c u m on)) = Done

-- ---- a step

pub record Answered : Type 0 where
  pub answer : Answer
  pub state : State

-- a refused call returns the number alone, and the state stays
abbrev pub decided : State → Call → Verdict → Answered
decided s x (Ok u) = record { answer = answer s x; state = accept s x }
decided s x (Err n) = record { answer = Refused n; state = s }

unfoldable pub step : State → Call → Answered
step s x = decided s x (refusal s x)
