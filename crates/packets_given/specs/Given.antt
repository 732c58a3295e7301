-- A live job holds exactly what it was given less what it has returned. Its drum area and its core are those of the
-- last taking into its place. Its units are those except the ones that it gave back early, until the rest returns
-- together. An empty place holds no unit. What is listed or moves on the drum is at an address of its job's area. A
-- reader has to believe this page.
use Rattle.std.specs.Prelude.{ℕ, ◌<◌, ◌≡◌, Bool, true, false, not, cond, ◌&&◌, ◌||◌, List, [], ◌∷◌, eqb}
use Rattle.std.proofs.Math.Option.{Option, none, some}
use Rattle.units.specs.State.{Square, assignable, is_returning, unit_in}
use Rattle.packets.specs.Apart.{in_core}
use Rattle.packets.specs.History.{Along, Event, Reached, is_accepted}
use Rattle.packets.specs.Rules.{Call, Do, Take, in_area}
use Rattle.packets.specs.declared.Act.TheVariants.{Submit, Start, Complete, End, Return, Mark}
use Rattle.packets.specs.State.{State, held_by, is_busy, is_empty, job_in, packet_in, same, state_in, wanted}
use Rattle.packets.specs.declared.Answer.{Answer}
use Rattle.packets.specs.declared.Answer.TheVariants.{Closed, Completed, Done, Refused, Started}
use Rattle.packets.specs.declared.Assignment.{Assignment}
use Rattle.packets.specs.declared.Begun.{Begun}
use Rattle.packets.specs.declared.Packet.{Packet}
use Rattle.packets.specs.declared.Site.{Site}
use Rattle.packets.specs.declared.Site.TheVariants.{AtAddress, AtUnit}

-- ---- reckoned from calls and their answers alone

module _ {A : Type 0} where
  -- call by call
  abbrev pub reckoned : (A → Call → Answer → A) → A → List Event → A
  reckoned f t [] = t
  reckoned f t (e ∷ l) = reckoned f (f t e.call e.answer) l

-- an accepted taking into place j gives its assignment; after any other call the last one stands
unfoldable pub taken_by : ℕ → Option Assignment → Call → Answer → Option Assignment
taken_by j last (Take i asg) r = cond (is_accepted r && eqb j i) (some asg) last
taken_by j last (Do x) r = last

-- the assignment of the last accepted taking into place j
abbrev pub taking : List Event → ℕ → Option Assignment
taking l j = reckoned (taken_by j) none l

-- some units, by channel and number
abbrev pub Heads : Type 0
Heads = ℕ → ℕ → Bool

abbrev pub no_heads : Heads
no_heads c u = false

-- an accepted return of place j asks for its unit; a taking into place j begins with none
unfoldable pub asked_by : ℕ → Heads → Call → Answer → Heads
asked_by j t (Take i asg) r c u = cond (is_accepted r && eqb j i) false (t c u)
asked_by j t (Do (Submit i p f d w)) r c u = t c u
asked_by j t (Do (Start d)) r c u = t c u
asked_by j t (Do (Complete d how)) r c u = t c u
asked_by j t (Do (End i e)) r c u = t c u
asked_by j t (Do (Return i d v)) r c u = (is_accepted r && (eqb j i && (eqb c d.0 && eqb u v.0))) || t c u
asked_by j t (Do (Mark d v m on)) r c u = t c u

-- the units whose return the job in place j has asked for since it was taken
abbrev pub asking : List Event → ℕ → Heads
asking l j = reckoned (asked_by j) no_heads l

-- what is under way on each channel, if anything
abbrev pub UnderWay : Type 0
UnderWay = ℕ → Option Begun

-- on a channel, after an answer: what a start took; nothing, after a completion; else what was
abbrev pub way_after : Answer → Option Begun → Option Begun
way_after Done o = o
way_after (Started b) o = some b
way_after (Completed j p r) o = none
way_after (Closed j r) o = o
way_after (Refused n) o = o

-- a start and a completion are of one channel
unfoldable pub moved_by : UnderWay → Call → Answer → UnderWay
moved_by t (Take i asg) r c = t c
moved_by t (Do (Submit i p f d w)) r c = t c
moved_by t (Do (Start d)) r c = cond (eqb c d.0) (way_after r (t c)) (t c)
moved_by t (Do (Complete d how)) r c = cond (eqb c d.0) (way_after r (t c)) (t c)
moved_by t (Do (End i e)) r c = t c
moved_by t (Do (Return i d v)) r c = t c
moved_by t (Do (Mark d v m on)) r c = t c

abbrev pub under_way : List Event → UnderWay
under_way l = reckoned moved_by (λ c. none) l

-- it is a packet of the job in place j, on unit u
abbrev pub is_on : ℕ → ℕ → Option Begun → Bool
is_on j u none = false
is_on j u (some b) = eqb b.place j && same b.at (AtUnit (record { 0 = u }))

-- what the job in place j has returned since it was taken. A unit whose return it has asked for is "free when that
-- completion comes, or at once if nothing moves"
abbrev pub has_returned : List Event → ℕ → Heads
has_returned l j c u = asking l j c u && not (is_on j u (under_way l c))

-- ---- what a taking may be given

-- each unit that a taking wants is assignable: free and unmarked
abbrev pub Wants : State → Call → Type 0
Wants s (Take j asg) = (c u : ℕ) → c < 16 → u < 16 → wanted asg c u ≡ true → assignable (unit_in s.units c u) ≡ true
Wants s (Do x) = Unit {0}

-- so it is with each accepted taking of a history
abbrev pub Wanting : State → List Event → Type 0
Wanting s l = Along (λ before x after. Wants before x) s l

-- ---- what a place holds

-- the job in place j holds what the assignment gave less what it has returned. It holds that drum area, that core, and
-- a unit exactly when the assignment has it and it has not returned it
pub record HoldsExactly (s : State) (j : ℕ) (asg : Assignment) (asked back : Heads) : Type 0 where
  pub from : (job_in s.jobs j).from ≡ asg.from
  pub words : (job_in s.jobs j).words ≡ asg.words
  pub core : (job_in s.jobs j).core ≡ asg.core
  pub units : (c u : ℕ) → c < 16 → u < 16 → held_by (unit_in s.units c u).holder j ≡ wanted asg c u && not (back c u)
  -- of the units that it holds those are being returned whose return it has asked for
  pub returning : (c u : ℕ) → c < 16 → u < 16 → held_by (unit_in s.units c u).holder j ≡ true
      → is_returning (unit_in s.units c u).holder ≡ asked c u

-- all that the assignment gave and that it has not returned is still the job's own. The job is there, and it holds
-- exactly that. No other job holds one of its units, a word of its drum area or a block of its core
pub record StillOwn (s : State) (j : ℕ) (asg : Assignment) (asked back : Heads) : Type 0 where
  pub there : is_empty (state_in s.jobs j) ≡ false
  pub holds : HoldsExactly s j asg asked back
  -- of units that is so by type: a unit has one holder
  pub heads : (i c u : ℕ) → held_by (unit_in s.units c u).holder j ≡ true → held_by (unit_in s.units c u).holder i ≡ true → i ≡ j
  pub drum : (i x : ℕ) → is_empty (state_in s.jobs i) ≡ false
      → in_area (job_in s.jobs j) x ≡ true → in_area (job_in s.jobs i) x ≡ true → i ≡ j
  pub core : (i x : ℕ) → is_empty (state_in s.jobs i) ≡ false
      → in_core (job_in s.jobs j) x ≡ true → in_core (job_in s.jobs i) x ≡ true → i ≡ j

-- the unit that a packet is on is its job's, or, on the drum, its address is of its job's area
abbrev pub IsOwn : State → ℕ → ℕ → Site → Type 0
IsOwn s j c (AtUnit u) = held_by (unit_in s.units c u.0).holder j ≡ true
IsOwn s j c (AtAddress x) = in_area (job_in s.jobs j) x ≡ true

abbrev pub OnItsOwn : State → ℕ → Packet → Type 0
OnItsOwn s j q = IsOwn s j q.channel.0 q.at

-- place j after a history
pub record AsGiven (l : List Event) (s : State) (j : ℕ) : Type 0 where
  -- a job that runs or is closing was taken, and holds what it was given less what it has returned
  pub live : is_empty (state_in s.jobs j) ≡ false
      → (asg : Assignment) × (taking l j ≡ some asg) × HoldsExactly s j asg (asking l j) (has_returned l j)
  -- no job is there, or its facilities have returned
  pub empty : is_empty (state_in s.jobs j) ≡ true → (c u : ℕ) → held_by (unit_in s.units c u).holder j ≡ false

-- for every history that begins with 16 channels of 16 units, and for every place
abbrev pub HoldsWhatItWasGiven : Type 0
HoldsWhatItWasGiven =
    (l : List Event) (s : State) (r : Reached l s) → Square r.from.units → Wanting r.from l → (j : ℕ) → AsGiven l s j

-- a packet that is listed, in progress or stopping at an address is at one of its job's area
abbrev pub AtItsArea : State → Type 0
AtItsArea s =
    (j p : ℕ) → is_busy (packet_in s.jobs j p).status ≡ true → (x : ℕ) → (packet_in s.jobs j p).at ≡ AtAddress x
    → in_area (job_in s.jobs j) x ≡ true

abbrev pub OnItsOwnWords : Type 0
OnItsOwnWords = (l : List Event) (s : State) → Reached l s → AtItsArea s
