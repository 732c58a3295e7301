-- What an accepted call does to each packet's status: a packet ends with exactly the code that document 01 states for
-- what ended it, and keeps it until it is submitted again or the place is taken. A reader has to believe this page.
use Rattle.std.specs.Prelude.{ℕ, ◌≡◌, Bool, false, not, cond, ◌&&◌, ◌||◌, List, eqb, None, Ok, Some}
use Rattle.std.proofs.Math.Option.{Option, none, some}
use Rattle.packets.specs.History.{Event, Reached}
use Rattle.packets.specs.Lone.{ends_with, stops}
use Rattle.numbers.specs.Elements.{find}
use Rattle.packets.specs.Rules.{
  Call,
  Do,
  Take,
  accept,
  aimed,
  is_at,
  is_trouble,
  locked,
  refusal,
  site_of,
  startable,
  step,
}
use Rattle.packets.specs.State.{is_packet, is_unit, State, motion_on, packet_in, packet_of, place_of}
use Rattle.packets.specs.declared.Act.TheVariants.{Submit, Start, Complete, End, Return, Mark}
use Rattle.packets.specs.declared.How.{How}
use Rattle.packets.specs.declared.How.TheVariants.{Cut, Failed, Full}
use Rattle.packets.specs.State.{Motion}
use Rattle.packets.specs.declared.Site.TheVariants.{AtUnit}
use Rattle.packets.specs.declared.Spot.{Spot}
use Rattle.packets.specs.declared.Status.{Status}
use Rattle.packets.specs.declared.Status.TheVariants.{Blank, Ended, InProgress, Listed}

-- the packet that a start takes
abbrev pub takes : Option ℕ → ℕ → ℕ → Bool
takes none i n = false
takes (some e) i n = is_packet (place_of e) (packet_of e) i n

-- a submission: the packet itself ends with 00 (07, 23) or is listed; 07 under interlock ends with 01 what its job
-- has listed on the unit; 23 ends with 16o what its job has listed there, and what is in progress there is stopping
abbrev pub after_submit : State → ℕ → ℕ → ℕ → ℕ → Spot → ℕ → ℕ → Status
after_submit s j p f c w i n =
    let q = packet_in s.jobs i n in
    cond (is_packet j p i n) (cond (eqb f 0o07 || eqb f 0o23) (Ended 0o00) Listed)
    (cond (eqb i j && (eqb f 0o07 && (locked s c (site_of w) && is_at c (site_of w) q))) (ends_with 0o01 q.status)
    (cond (eqb i j && (not (eqb f 0o07) && (eqb f 0o23 && aimed c w q))) (stops (ends_with 0o16 q.status))
    q.status))

-- "Completion is full (00), cut (17o) or failed with a code"
abbrev pub code_of : How → ℕ
code_of Full = 0o00
code_of Cut = 0o17
code_of (Failed k) = k

-- a completion: the packet that moved ends with 00, 17o or the failure's code; a failure with a code that sets
-- interlock ends with 01 what is listed on its unit, any other ends nothing else
abbrev pub after_complete : State → ℕ → How → Motion → ℕ → ℕ → Status
after_complete s c how None i n = (packet_in s.jobs i n).status
after_complete s c how (Some (j, p)) i n =
    let q = packet_in s.jobs i n in
    let a = (packet_in s.jobs j p).at in
    cond (is_packet j p i n) (Ended (code_of how))
    (cond (eqb i j && ((is_trouble s.codes how && is_unit a) && is_at c a q)) (ends_with 0o01 q.status)
    q.status)

-- packet n of place i after an accepted call
unfoldable pub status_after : State → Call → ℕ → ℕ → Status
status_after s (Take j asg) i n = cond (eqb i j) Blank (packet_in s.jobs i n).status
status_after s (Do (Submit j p f c w)) i n = after_submit s j p f c.0 w i n
status_after s (Do (Start c)) i n = cond (takes (find (startable s c.0) s.queue) i n) InProgress (packet_in s.jobs i n).status
status_after s (Do (Complete c how)) i n = after_complete s c.0 how (motion_on s c.0) i n
status_after s (Do (End j e)) i n =
    cond (eqb i j) (stops (ends_with 0o16 (packet_in s.jobs i n).status)) (packet_in s.jobs i n).status
-- a return: what its job has listed on the unit ends with 16o, what is in progress there is stopping
status_after s (Do (Return j c u)) i n =
    let q = packet_in s.jobs i n in
    cond (eqb i j && is_at c.0 (AtUnit u) q) (stops (ends_with 0o16 q.status)) q.status
status_after s (Do (Mark c u m on)) i n = (packet_in s.jobs i n).status

-- of each accepted call in a reached state
abbrev pub Codes : Type 0
Codes =
    (l : List Event) (s : State) → Reached l s → (x : Call) → refusal s x ≡ Ok tt → (i n : ℕ)
    → (packet_in (accept s x).jobs i n).status ≡ status_after s x i n

-- the calls that a packet's ended status does not outlast: its own submission, and a taking of its place
abbrev pub renews : Call → ℕ → ℕ → Bool
renews (Take j asg) i n = eqb i j
renews (Do (Submit j p f c w)) i n = is_packet j p i n
renews (Do (Start c)) i n = false
renews (Do (Complete c how)) i n = false
renews (Do (End j e)) i n = false
renews (Do (Return j c u)) i n = false
renews (Do (Mark c u m on)) i n = false

-- an ended packet keeps its code through every other call, accepted or refused
abbrev pub Kept : Type 0
Kept =
    (l : List Event) (s : State) → Reached l s → (x : Call) (i n k : ℕ) → (packet_in s.jobs i n).status ≡ Ended k
    → renews x i n ≡ false → (packet_in (step s x).state.jobs i n).status ≡ Ended k
