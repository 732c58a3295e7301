-- What holds in every reached state. A reader has to believe this page.
use Rattle.std.specs.Prelude.{ℕ, ◌≡◌, true, false, not, List, eqb, Some}
use Rattle.numbers.specs.declared.UnitNumber.{UnitNumber}
use Rattle.units.specs.State.{is_returning, unit_in}
use Rattle.packets.specs.History.{Event, Reached}
use Rattle.packets.specs.State.{
  in_motion,
  State,
  drum_on,
  entry_of,
  held_by,
  is_busy,
  is_closing,
  is_empty,
  is_listed,
  is_still,
  is_unit,
  motion_on,
  packet_in,
  state_in,
  unit_at,
}
use Rattle.numbers.specs.Elements.{All, Nodup, any}
use Rattle.packets.specs.Rules.{is_at}
use Rattle.packets.specs.declared.Packet.{Packet}
use Rattle.packets.specs.declared.Site.TheVariants.{AtUnit}
use Rattle.packets.specs.declared.Status.TheVariants.{Stopping}

-- packet p of the job in place j
abbrev pub packet_at : State → ℕ → ℕ → Packet
packet_at s j p = packet_in s.jobs j p

pub record Always (s : State) : Type 0 where
  -- one packet in progress or stopping per channel: what moves on a channel is one, submitted there, and each such
  -- packet moves there
  pub moving : (c j p : ℕ) → motion_on s c ≡ Some (j, p) → (in_motion (packet_at s j p).status ≡ true) × ((packet_at s j p).channel.0 ≡ c)
  pub movers : (j p : ℕ) → in_motion (packet_at s j p).status ≡ true → motion_on s (packet_at s j p).channel.0 ≡ Some (j, p)
  -- listed packets are exactly those in the list, once each
  pub entries : All (λ (e : ℕ). is_still s.jobs e ≡ true) s.queue
  pub members : (j p : ℕ) → is_listed (packet_at s j p).status ≡ true → any (eqb (entry_of j p)) s.queue ≡ true
  pub once : Nodup eqb s.queue
  -- a listed or moving packet is at an address on the drum channel, on any other at a unit, which its job holds
  pub sites : (j p : ℕ) → is_busy (packet_at s j p).status ≡ true
      → is_unit (packet_at s j p).at ≡ not (drum_on s.channels (packet_at s j p).channel.0)
  pub held : (j p : ℕ) → is_busy (packet_at s j p).status ≡ true → (u : UnitNumber) → (packet_at s j p).at ≡ AtUnit u
      → held_by (unit_in s.units (packet_at s j p).channel.0 u.0).holder j ≡ true
  -- a job of which a packet is listed, in progress or stopping is still there
  pub live : (j p : ℕ) → is_busy (packet_at s j p).status ≡ true → is_empty (state_in s.jobs j) ≡ false
  -- what is in progress or stopping is at a unit without interlock, or on the drum, which has none
  pub unlocked : (j p : ℕ) → in_motion (packet_at s j p).status ≡ true
      → (unit_at s.units (packet_at s j p).channel.0 (packet_at s j p).at).interlock ≡ false
  -- a closing job has a packet stopping, and what of it moves is
  pub closing : (j : ℕ) → is_closing (state_in s.jobs j) ≡ true → (p : ℕ) × ((packet_at s j p).status ≡ Stopping)
  pub stopping : (j p : ℕ) → is_closing (state_in s.jobs j) ≡ true → in_motion (packet_at s j p).status ≡ true
      → (packet_at s j p).status ≡ Stopping
  -- on a unit that is being returned a packet of the job that holds it is stopping, and no other of it is listed or moves
  pub returning : (c u : ℕ) → is_returning (unit_in s.units c u).holder ≡ true
      → (j p : ℕ) × (held_by (unit_in s.units c u).holder j ≡ true) × (motion_on s c ≡ Some (j, p))
      × ((packet_at s j p).at ≡ AtUnit (record { 0 = u })) × ((packet_at s j p).status ≡ Stopping)
  pub unlisted : (c u : ℕ) → is_returning (unit_in s.units c u).holder ≡ true → (j p : ℕ)
      → is_listed (packet_at s j p).status ≡ true → is_at c (AtUnit (record { 0 = u })) (packet_at s j p) ≡ false

abbrev pub Invariants : Type 0
Invariants = (l : List Event) (s : State) → Reached l s → Always s

-- no early hand-over: a unit on which a packet is in progress or stopping is held by that packet's job
abbrev pub NoEarlyHandOver : Type 0
NoEarlyHandOver =
    (l : List Event) (s : State) → Reached l s → (j p : ℕ) → in_motion (packet_at s j p).status ≡ true
    → (u : UnitNumber) → (packet_at s j p).at ≡ AtUnit u
    → held_by (unit_in s.units (packet_at s j p).channel.0 u.0).holder j ≡ true
