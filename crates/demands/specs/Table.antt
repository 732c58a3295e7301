-- THE TABLE OF REFUSED CALLS. For each call it has the sentences that may refuse it, in the order of their numbers, and
-- whether each of them holds. The lowest answers; 17, "checked before everything else", comes first, and where it holds
-- there is no other sentence; 21 comes "after 3". A reader has to believe this page.
use Rattle.std.specs.Prelude.{ℕ, ◌+◌, ◌≡◌, Bool, true, false, not, cond, ◌&&◌, ◌||◌, List, [], ◌∷◌, ◌++◌, ◌⊎◌, eqb, ltb, leb, length, get_or, None, Some}
use Rattle.std.proofs.Math.Option.{Option, none, some}
use Rattle.numbers.specs.Kinds.{is_drum}
use Rattle.numbers.specs.declared.Refusal.{Refusal}
use Rattle.numbers.specs.declared.Refusal.TheVariants.{
  OutOfRange,
  NoJob,
  NotTheJobs,
  NotLegal,
  PacketInUse,
  ChannelBusy,
  NothingStartable,
  NothingInProgress,
  WrongCompletion,
  BadDeck,
  NoSuchRequest,
  JobRuns,
  UnknownMessage,
  NoPlaceFree,
  NoCandidates,
  NoAssignment,
  BeingReturned,
}
use Rattle.units.specs.State.{is_returning, unit_in}
use Rattle.keyboard.specs.Messages.{message_words}
use Rattle.keyboard.specs.Typed.{known}
use Rattle.cards_fields.specs.Deck.{cards_of, terminated}
use Rattle.schedule_entries.specs.Entries.{active, is_named, suspended}
use Rattle.schedule_entries.specs.declared.Entry.{Entry}
use Rattle.schedule_list.specs.InSchedule.{in_schedule}
use Rattle.numbers.specs.Elements.{any, find}
use Rattle.numbers.specs.Limits.{deck_bytes}
use Rattle.packets.specs.State.{
  Fitting,
  State,
  blank,
  configured,
  fitted_on,
  held_by,
  is_busy,
  is_idle,
  is_running,
  is_stopping,
  job_in,
  legal_for,
  motion_on,
  moving_status,
  packet_in,
  packet_of,
  place_of,
  state_in,
}
use Rattle.packets.specs.declared.Act.{Act}
use Rattle.packets.specs.declared.Act.TheVariants.{Complete, End, Mark, Return, Start, Submit}
use Rattle.packets.specs.declared.How.{How}
use Rattle.packets.specs.declared.How.TheVariants.{Cut, Failed, Full}
use Rattle.packets.specs.declared.Site.{Site}
use Rattle.packets.specs.declared.Site.TheVariants.{AtAddress, AtUnit}
use Rattle.packets.specs.declared.Spot.{Spot}
use Rattle.packets.specs.declared.Spot.TheVariants.{OnDrum, OnUnit}
use Rattle.packets.specs.declared.Status.{Status as PacketStatus}
use Rattle.cell_selection.specs.Selecting.{AllHeld, NoCandidate, NoFit, supply_in}
use Rattle.cell.specs.declared.Cell.{Cell}
use Rattle.cell_history.specs.Told.{inside}
use Rattle.cell_history.specs.History.{Call, Deck, Delete, Do, Key, Release, Select, Status, meant}

-- a sentence of the table: its refusal, and whether it holds
pub record Row : Type 0 where
  pub refusal : Refusal
  pub holds : Bool

abbrev pub row : Refusal → Bool → Row
row refusal holds = record { refusal = refusal; holds = holds }

-- "The lowest number answers": of rows in the order of their numbers, 21 behind 3, the first that holds
abbrev pub lowest : List Row → Option Refusal
lowest [] = none
lowest (r ∷ rs) = cond r.holds (some r.refusal) (lowest rs)

-- a channel has the unit, or is the drum channel, where no address is out of range
abbrev pub has : Fitting → Spot → Bool
has None w = false
has (Some on) (OnUnit u) = not (is_drum on.kind) && (ltb u.0 16 && ltb u.0 on.n)
has (Some on) (OnDrum x h) = is_drum on.kind

-- a unit is held by the job in place j; an address is of its area, or it has one, which is enough for 23
abbrev pub is_the_jobs : State → ℕ → ℕ → ℕ → Spot → Bool
is_the_jobs s j f k (OnUnit u) = held_by (unit_in s.units k u.0).holder j
is_the_jobs s j f k (OnDrum x h) =
    let job = job_in s.jobs j in
    cond (eqb f 0o23) (ltb 0 job.words) (leb job.from x && ltb x (job.from + job.words))

-- a unit is being returned; a piece of drum never is
abbrev pub is_on_its_way : State → ℕ → Spot → Bool
is_on_its_way s k (OnUnit u) = is_returning (unit_in s.units k u.0).holder
is_on_its_way s k (OnDrum x h) = false

-- a submission, by what the channel has: 1, 2, 3, 21, 4, 5
abbrev pub submit_rows : State → Fitting → ℕ → ℕ → ℕ → ℕ → Spot → List Row
submit_rows s on j p f k w =
    -- place, channel, unit, packet or function number out of range, or channel or unit not configured
    row OutOfRange (not (ltb j 16 && (ltb p 16 && (ltb f 0o100 && (ltb k 16 && has on w)))))
    -- no job in that place, or it is closing
    ∷ row NoJob (not (is_running (state_in s.jobs j)))
    -- unit or drum address not the job's
    ∷ row NotTheJobs (not (is_the_jobs s j f k w))
    -- unit being returned
    ∷ row BeingReturned (is_on_its_way s k w)
    -- function not legal for the kind
    ∷ row NotLegal (not (legal_for on f))
    -- packet listed, in progress or stopping
    ∷ row PacketInUse (is_busy (get_or (job_in s.jobs j).packets p blank).status)
    ∷ []

-- a unit's return, by what the channel has: 1, on the drum channel too, 2, 3, 21
abbrev pub return_rows : State → Fitting → ℕ → ℕ → ℕ → List Row
return_rows s on j k u =
    -- place, channel or unit number out of range, or channel or unit not configured: "a release on the drum channel gets 1"
    row OutOfRange (not (ltb j 16 && (ltb k 16 && has on (OnUnit (record { 0 = u })))))
    -- no job in that place, or it is closing
    ∷ row NoJob (not (is_running (state_in s.jobs j)))
    -- unit not the job's
    ∷ row NotTheJobs (not (held_by (unit_in s.units k u).holder j))
    -- unit being returned
    ∷ row BeingReturned (is_returning (unit_in s.units k u).holder)
    ∷ []

-- what a packet is at has no interlock; a word of the drum never has one
abbrev pub is_open : State → ℕ → Site → Bool
is_open s k (AtUnit u) = not (unit_in s.units k u.0).interlock
is_open s k (AtAddress x) = true

-- a listed packet that a start on channel k could take: it is on that channel, and its unit has no interlock
abbrev pub can_start : State → ℕ → ℕ → Bool
can_start s k e =
    let p = packet_in s.jobs (place_of e) (packet_of e) in
    eqb p.channel.0 k && is_open s k p.at

-- a completion that the packet's status does not allow, or a failure's code that none may have
abbrev pub cannot_end : PacketStatus → How → Bool
cannot_end t Full = false
cannot_end t Cut = not (is_stopping t)
cannot_end t (Failed k) = eqb k 0o00 || (eqb k 0o01 || (eqb k 0o16 || (eqb k 0o17 || ltb 0o77 k)))

-- of the request with an ID, if there is one: it is there, it is suspended, its job runs or closes
abbrev pub is_there : Option Entry → Bool
is_there none = false
is_there (some e) = true

abbrev pub is_suspended : Option Entry → Bool
is_suspended none = false
is_suspended (some e) = suspended e.state

abbrev pub is_active : Option Entry → Bool
is_active none = false
is_active (some e) = active e.state

-- the sentences of a call on packets, jobs, units and marks
abbrev pub act_rows : State → Act → List Row
act_rows s (Submit j p f k w) = submit_rows s (fitted_on s.channels k.0) j p f k.0 w
-- 1; 6: start on a busy channel; 7: start with nothing startable
act_rows s (Start k) =
    row OutOfRange (not (configured s.channels k.0))
    ∷ row ChannelBusy (not (is_idle (motion_on s k.0)))
    ∷ row NothingStartable (not (any (can_start s k.0) s.queue))
    ∷ []
-- 1; 8: completion with nothing in progress; 9: cut for a packet not stopping, failure code 00, 01, 16o, 17o or
-- over 77o
act_rows s (Complete k how) =
    row OutOfRange (not (configured s.channels k.0))
    ∷ row NothingInProgress (is_idle (motion_on s k.0))
    ∷ row WrongCompletion (cannot_end (moving_status s (motion_on s k.0)) how)
    ∷ []
-- 1; 2: no job in that place, or it is closing
act_rows s (End j in_error) = row OutOfRange (not (ltb j 16)) ∷ row NoJob (not (is_running (state_in s.jobs j))) ∷ []
act_rows s (Return j k u) = return_rows s (fitted_on s.channels k.0) j k.0 u.0
-- 1, on the drum channel too
act_rows s (Mark k u mark on) = row OutOfRange (not (ltb k.0 16 && has (fitted_on s.channels k.0) (OnUnit u))) ∷ []

-- the sentences of each call
abbrev pub rows_in : State → List Entry → Call → List Row
-- 11: deck too long or without termination card
rows_in s es (Deck bytes) = row BadDeck (not (leb (length bytes) deck_bytes && terminated (cards_of bytes))) ∷ []
-- a selection: stated by itself, below (`SelectRefused`)
rows_in s es Select = []
rows_in s es (Do x) = act_rows s x
-- 15: no such ID, or not suspended
rows_in s es (Release id) = row NoSuchRequest (not (is_suspended (find (is_named id) es))) ∷ []
-- 15: no such ID; 16: the job runs or closes
rows_in s es (Delete id) = row NoSuchRequest (not (is_there (find (is_named id) es))) ∷ row JobRuns (is_active (find (is_named id) es)) ∷ []
-- 1
rows_in s es (Status j p) = row OutOfRange (not (ltb j 16 && ltb p 16)) ∷ []
-- a keyboard message is no call that is meant: its sentences are those of the call that it asks for
rows_in s es (Key message) = []

-- the sentences of the call that is meant, if there is one
abbrev pub meant_rows : State → List Entry → Option Call → List Row
meant_rows s es none = []
meant_rows s es (some x) = rows_in s es x

-- 17: unknown message word, or text after the last field; "checked before everything else"
abbrev pub unknown_rows : Call → List Row
unknown_rows (Deck bytes) = []
unknown_rows Select = []
unknown_rows (Do x) = []
unknown_rows (Release id) = []
unknown_rows (Delete id) = []
unknown_rows (Status j p) = []
unknown_rows (Key message) = row UnknownMessage (not (known (message_words message))) ∷ []

-- the sentences of a call on a cell
abbrev pub rows : Cell → Call → List Row
rows c x = unknown_rows x ++ meant_rows (inside c) (in_schedule c.schedule) (meant x)

-- a call is a selection
abbrev pub is_select : Call → Bool
is_select (Deck bytes) = false
is_select Select = true
is_select (Do x) = false
is_select (Release id) = false
is_select (Delete id) = false
is_select (Status j p) = false
is_select (Key message) = false

-- a sentence that is no computed test: its refusal answers where it holds, else what the others say
abbrev pub or_else : Refusal → Type 0 → (Option Refusal → Type 0) → Option Refusal → Type 0
or_else n holds others o = ((o ≡ some n) × holds) ⊎ ((holds → ⊥) × others o)

-- a selection: "18 means no place is free; 19 that there are no candidates; 20 that there are some", of which none has
-- an assignment. "18, 19, 20 in that order"
abbrev pub SelectRefused : Cell → Option Refusal → Type 0
SelectRefused c =
    or_else NoPlaceFree (AllHeld c.lists)
    (or_else NoCandidates (NoCandidate (in_schedule c.schedule))
    (or_else NoAssignment (NoFit (in_schedule c.schedule) (supply_in c.lists))
    (λ o. o ≡ none)))

-- WHICH REFUSAL ANSWERS, if any: the first of the call's sentences that hold
abbrev pub RefusedBy : Bool → Cell → Call → Option Refusal → Type 0
RefusedBy true c x o = SelectRefused c o
RefusedBy false c x o = o ≡ lowest (rows c x)
