-- Demand 3: what a job's holding sees is what a lone unit would do. A reader has to believe this page.
use Rattle.std.specs.Prelude.{ℕ, ◌≡◌, Bool, true, false, not, cond, ◌&&◌, List, [], ◌∷◌, ◌++◌, ltb, eqb, Ok, Some}
use Rattle.std.proofs.Math.Option.{Option, none, some}
use Rattle.units.specs.State.{unit_in}
use Rattle.packets.specs.History.{Event, Leads, Reached, is_accepted}
use Rattle.packets.specs.Lone.{LoneCall, Submits, Starts, Completes, Ends, Returns, LoneStart, Target, Itself, Words}
use Rattle.packets.specs.Lone.{is_at_rest, lone_run, lone_starts, lone_takes_all, new_lone}
use Rattle.packets.specs.Rules.{Call, Do, Take, site_of, refusal, step}
use Rattle.packets.specs.State.{State, drum_on, held_by, is_empty, job_in, motion_on, packet_in, state_in}
use Rattle.packets.specs.declared.Act.TheVariants.{Submit, Start, Complete, End, Return, Mark}
use Rattle.packets.specs.declared.Answer.{Answer}
use Rattle.packets.specs.declared.Answer.TheVariants.{Closed, Completed, Done, Refused, Started}
use Rattle.packets.specs.declared.Assignment.{Assignment}
use Rattle.packets.specs.declared.Begun.{Begun}
use Rattle.packets.specs.declared.Packet.{Packet}
use Rattle.packets.specs.declared.Site.{Site}
use Rattle.packets.specs.declared.Site.TheVariants.{AtAddress, AtUnit}
use Rattle.packets.specs.declared.Spot.{Spot}
use Rattle.packets.specs.declared.Spot.TheVariants.{OnDrum, OnUnit}

-- ---- a holding: what one job holds

-- a unit of a channel, or, where drum, the job's piece of the drum on that channel
pub record Holding : Type 0 where
  pub place : ℕ
  pub channel : ℕ
  pub drum : Bool
  pub unit : ℕ

pub record Holds (s : State) (h : Holding) : Type 0 where
  pub kind : drum_on s.channels h.channel ≡ h.drum
  pub held : cond h.drum
      (not (is_empty (state_in s.jobs h.place)) && ltb 0 (job_in s.jobs h.place).words)
      (held_by (unit_in s.units h.channel h.unit).holder h.place)
      ≡ true

-- a is the unit, or, where drum, an address
abbrev pub is_part : Bool → ℕ → Site → Bool
is_part drum unit (AtUnit u) = not drum && eqb u.0 unit
is_part drum unit (AtAddress x) = drum

-- channel c and unit or address a are the holding's
abbrev pub is_there : Holding → ℕ → Site → Bool
is_there h c a = eqb c h.channel && is_part h.drum h.unit a

-- the holding's unit
abbrev pub its_unit : Holding → Site
its_unit h = AtUnit (record { 0 = h.unit })

-- the packet was last submitted there
abbrev pub there : Holding → Packet → Bool
there h p = is_there h p.channel.0 p.at

-- ---- what is seen from outside: the calls and their answers

-- which of the job's packets were, since the taking, last submitted there
abbrev pub Seen : Type 0
Seen = ℕ → Bool

abbrev pub none_seen : Seen
none_seen n = false

-- an accepted submission of the job's says where its packet was last submitted
unfoldable pub noted : Holding → Seen → Call → Answer → Seen
noted h t (Take j asg) r n = t n
noted h t (Do (Submit j p f c w)) r n = cond (is_accepted r && eqb j h.place && eqb n p) (is_there h c.0 (site_of w)) (t n)
noted h t (Do (Start c)) r n = t n
noted h t (Do (Complete c how)) r n = t n
noted h t (Do (End j e)) r n = t n
noted h t (Do (Return j c u)) r n = t n
noted h t (Do (Mark c u m on)) r n = t n

-- a start that took a packet there
abbrev pub took_there : Holding → ℕ → Answer → Bool
took_there h c Done = false
took_there h c (Started b) = eqb b.place h.place && is_there h c b.at
took_there h c (Completed j p r) = false
took_there h c (Closed j r) = false
took_there h c (Refused n) = false

-- a completion of such a packet
abbrev pub ended_there : Holding → Seen → Answer → Bool
ended_there h t Done = false
ended_there h t (Started b) = false
ended_there h t (Completed j p r) = eqb j h.place && t p
ended_there h t (Closed j r) = false
ended_there h t (Refused n) = false

-- ---- what that is to the lone unit

-- what a drum address is to it: the word of the same number
unfoldable pub word_of : ℕ → ℕ
word_of x = x

-- the word that a packet is at; on a unit there is none
abbrev pub word_at : Site → Option ℕ
word_at (AtUnit u) = none
word_at (AtAddress x) = some (word_of x)

-- what a submission is for
abbrev pub target_of : Spot → Target
target_of (OnUnit u) = Itself
target_of (OnDrum x h) = Words (word_of x) (word_of h)

-- one call if the test holds, else nothing
abbrev pub when : Bool → LoneCall → List LoneCall
when b x = cond b (x ∷ []) []

-- what a call and its answer are to the lone unit: a call of its own, if they acted on the holding. "The calls that act
-- on a holding are its job's submissions there (07 and 23 too), starts that took a packet there, completions of such
-- packets, and the job's end"; and "the release acts on the holding": its job's return of that unit
unfoldable pub as_lone : Holding → Seen → Call → Answer → List LoneCall
as_lone h t (Take j asg) r = []
as_lone h t (Do (Submit j p f c w)) r =
    when (is_accepted r && (eqb j h.place && is_there h c.0 (site_of w))) (Submits p f (target_of w))
as_lone h t (Do (Start c)) r = when (took_there h c.0 r) Starts
as_lone h t (Do (Complete c how)) r = when (ended_there h t r) (Completes how)
as_lone h t (Do (End j e)) r = when (is_accepted r && eqb j h.place) Ends
as_lone h t (Do (Return j c u)) r = when (is_accepted r && (eqb j h.place && is_there h c.0 (AtUnit u))) Returns
as_lone h t (Do (Mark c u m on)) r = []

-- the calls of a stretch that acted on the holding
unfoldable pub acting : Holding → Seen → List Event → List LoneCall
acting h t [] = []
acting h t (e ∷ l) = as_lone h t e.call e.answer ++ acting h (noted h t e.call e.answer) l

-- the start that an answer tells
abbrev pub start_in : Answer → List LoneStart
start_in Done = []
start_in (Started b) = (record { packet = b.packet; function = b.function; word = word_at b.at }) ∷ []
start_in (Completed j p r) = []
start_in (Closed j r) = []
start_in (Refused n) = []

-- what is nothing to the lone unit starts nothing there
abbrev pub start_there : List LoneCall → Answer → List LoneStart
start_there [] r = []
start_there (x ∷ l) r = start_in r

-- the starts that those calls made in the cell
unfoldable pub starts_in : Holding → Seen → List Event → List LoneStart
starts_in h t [] = []
starts_in h t (e ∷ l) =
    start_there (as_lone h t e.call e.answer) e.answer ++ starts_in h (noted h t e.call e.answer) l

-- the packets that were last submitted there, after a stretch
unfoldable pub seen_after : Holding → Seen → List Event → Seen
seen_after h t [] = t
seen_after h t (e ∷ l) = seen_after h (noted h t e.call e.answer) l

-- ---- the stretch, and what holds in it

-- before each call of the stretch the job holds it; the last call may return it: "the unit's own return", or with all
-- facilities of the job
abbrev pub Stretch : Holding → State → List Event → Type 0
Stretch h s [] = Unit {0}
Stretch h s (e ∷ l) = Holds s h × Stretch h (step s e.call).state l

-- every start on the unit is of a packet that this job has submitted there since the taking; t: which packets those
-- are before the first call
abbrev pub OwnStarts : Holding → Seen → List Event → Type 0
OwnStarts h t [] = Unit {0}
OwnStarts h t (e ∷ l) =
    ((b : Begun) → e.call ≡ Do (Start (record { 0 = h.channel })) → e.answer ≡ Started b → b.at ≡ its_unit h
    → (b.place ≡ h.place) × (t b.packet ≡ true))
    × OwnStarts h (noted h t e.call e.answer) l

-- so is what moves on the unit
abbrev pub OwnMotion : Holding → Seen → State → Type 0
OwnMotion h t s =
    (j p : ℕ) → motion_on s h.channel ≡ Some (j, p) → (packet_in s.jobs j p).at ≡ its_unit h → (j ≡ h.place) × (t p ≡ true)

-- of a stretch, by its calls and the answers to them, and of the state at its end; every moment of a stretch is the
-- end of a shorter one. The lone unit's section is `codes`
pub record Isolated (codes : ℕ) (h : Holding) (l : List Event) (end : State) : Type 0 where
  -- the lone unit takes every call that acted on the holding, each at the moment when it comes
  pub taken : lone_takes_all codes h.drum new_lone (acting h none_seen l) ≡ true
  -- it makes the same starts in the same order
  pub starts : starts_in h none_seen l ≡ lone_starts codes h.drum new_lone (acting h none_seen l)
  -- it leaves the same status in every packet last submitted there
  pub status : (n : ℕ) → seen_after h none_seen l n ≡ true
      → ((lone_run codes h.drum new_lone (acting h none_seen l)).packets n).status ≡ (packet_in end.jobs h.place n).status
  -- once its return is asked for, the job holds the unit exactly as long as a packet of it moves there
  pub returned : h.drum ≡ false → (lone_run codes h.drum new_lone (acting h none_seen l)).returning ≡ true
      → held_by (unit_in end.units h.channel h.unit).holder h.place
      ≡ not (is_at_rest (lone_run codes h.drum new_lone (acting h none_seen l)).moving)
  -- on a unit that is not the drum nothing of another job starts or is still moving, nor of one that had the place
  -- before
  pub started : h.drum ≡ false → OwnStarts h none_seen l
  pub moves : h.drum ≡ false → OwnMotion h (seen_after h none_seen l) end

-- in a reached state a job is taken with any assignment; for all that it then holds, up to its return or any earlier
-- moment. "Demand 3's lone unit takes the same section"
abbrev pub IsolatedAlways : Type 0
IsolatedAlways =
    (before : List Event) (s : State) → Reached before s → (j : ℕ) (asg : Assignment) → refusal s (Take j asg) ≡ Ok tt
    → (h : Holding) → h.place ≡ j → Holds (step s (Take j asg)).state h
    → (during : List Event) (end : State) → Leads (step s (Take j asg)).state during end
    → Stretch h (step s (Take j asg)).state during
    → Isolated s.codes h during end
