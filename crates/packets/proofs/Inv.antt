-- What holds in every cell that calls lead to: the invariant, and what becomes of the list when packets change.
-- Assumes nothing.
use Rattle.std.proofs.Common.{Some}
use Prim.Native.Nat.{ℕ}
use mathlib.Core.Path.{◌≡◌, refl, sym, ◌∙◌}
use mathlib.Core.Bool.{true, false, not}
use mathlib.Core.List.{List}
use lib.ListN.{length}
use lib.Dec.{eqb}
use borrow.Author.Tests.{eqb-true}
use Rattle.numbers.proofs.Tests.{by_bool}
use Rattle.units.specs.State.{is_returning, unit_in}
use Rattle.numbers.specs.Elements.{All, Nodup, keep}
use Rattle.packets.proofs.Laws.{all-imp, all_keep}
use Rattle.packets.proofs.Once.{nodup-keep}
use Rattle.packets.specs.State.{State, drum_on, held_by, is_busy, is_empty, is_kept, is_listed, is_running, is_still, motion_on}
use Rattle.packets.specs.State.{packet_in, packet_of, packets_in, place_of, relist, state_in, in_motion, is_unit, unit_at}
use Rattle.packets.proofs.Store.{size_in}
use Rattle.packets.specs.declared.Job.{Job}
use Rattle.packets.specs.declared.JobState.{JobState}
use Rattle.packets.specs.declared.JobState.TheVariants.{ClosingError, ClosingNormal, Empty, Running}
use Rattle.packets.specs.declared.Packet.{Packet}
use Rattle.packets.specs.declared.Site.{Site}
use Rattle.packets.specs.declared.Status.{Status}
use Rattle.packets.specs.declared.Status.TheVariants.{Blank, Ended, InProgress, Listed, Stopping}

pub listed-busy : (t : Status) → is_listed t ≡ true → is_busy t ≡ true
listed-busy Blank e = e
listed-busy Listed e = refl
listed-busy InProgress e = refl
listed-busy Stopping e = refl
listed-busy (Ended k) e = e

pub motion-busy : (t : Status) → in_motion t ≡ true → is_busy t ≡ true
motion-busy Blank e = e
motion-busy Listed e = refl
motion-busy InProgress e = refl
motion-busy Stopping e = refl
motion-busy (Ended k) e = e

pub running-alive : (t : JobState) → is_running t ≡ true → is_empty t ≡ false
running-alive Empty e = sym e
running-alive Running e = refl
running-alive ClosingNormal e = refl
running-alive ClosingError e = refl

-- a is an address on the drum channel, on any other a unit, and a unit is the job's in place j
abbrev pub OwnedAt : State → ℕ → ℕ → Site → Type 0
OwnedAt s j c a = (is_unit a ≡ not (drum_on s.channels c)) × (is_unit a ≡ true → held_by (unit_at s.units c a).holder j ≡ true)

abbrev pub Owned : State → ℕ → Packet → Type 0
Owned s j q = OwnedAt s j q.channel.0 q.at

-- the unit that a packet is at is not being returned
abbrev pub Staying : State → Packet → Type 0
Staying s q = is_returning (unit_at s.units q.channel.0 q.at).holder ≡ false

pub record OkEntry (s : State) (j p : ℕ) : Type 0 where
  pub listed : is_listed (packet_in s.jobs j p).status ≡ true
  pub running : is_running (state_in s.jobs j) ≡ true
  pub owned : Owned s j (packet_in s.jobs j p)
  pub staying : Staying s (packet_in s.jobs j p)

pub record OkMotion (s : State) (c j p : ℕ) : Type 0 where
  pub going : in_motion (packet_in s.jobs j p).status ≡ true
  pub channel : (packet_in s.jobs j p).channel.0 ≡ c
  pub alive : is_empty (state_in s.jobs j) ≡ false
  pub owned : Owned s j (packet_in s.jobs j p)

abbrev pub EntryOk : State → ℕ → Type 0
EntryOk s e = OkEntry s (place_of e) (packet_of e)

pub record Inv (s : State) : Type 0 where
  pub sizes : (j : ℕ) → is_empty (state_in s.jobs j) ≡ false → size_in s.jobs j ≡ 16
  pub places : length s.jobs ≡ 16
  pub channels : length s.moving ≡ 16
  pub queued : All (EntryOk s) s.queue
  pub single : Nodup eqb s.queue
  pub motion : (c j p : ℕ) → motion_on s c ≡ Some (j, p) → OkMotion s c j p
  pub holders : (c u j : ℕ) → held_by (unit_in s.units c u).holder j ≡ true → is_empty (state_in s.jobs j) ≡ false

-- what is no longer listed leaves no repeat
pub single-relist : (j : ℕ) (ps : List Packet) (q : List ℕ) → Nodup eqb q → Nodup eqb (relist j ps q)
unfolding relist
single-relist j ps q h = nodup-keep eqb (is_kept j ps) q h

-- only the packets of place j change
abbrev pub Elsewhere : ℕ → List Job → List Job → Type 0
Elsewhere j old jobs = (i n : ℕ) → eqb i j ≡ false → packet_in jobs i n ≡ packet_in old i n

-- then an entry that was listed is kept if it still is
pub kept-still : (j : ℕ) (old jobs : List Job) → Elsewhere j old jobs → (e : ℕ) → is_still old e ≡ true
    → is_kept j (packets_in jobs j) e ≡ is_still jobs e
unfolding packet_in
kept-still j old jobs same e l =
    by_bool (eqb (place_of e) j)
    (λ t. let p : place_of e ≡ j = eqb-true (place_of e) j t in rw (t, p))
    (λ t. rw t (sym (rw (same (place_of e) (packet_of e) t) l)))

-- the queue after a change of the packets
pub requeued : (s s' : State) (j : ℕ) (jobs : List Job) → Elsewhere j s.jobs jobs
    → ((j p : ℕ) → OkEntry s j p → is_listed (packet_in jobs j p).status ≡ true → OkEntry s' j p)
    → (q : List ℕ) → All (EntryOk s) q → All (EntryOk s') (relist j (packets_in jobs j) q)
unfolding relist
requeued s s' j jobs same f q h =
    all-imp (λ (e : ℕ). EntryOk s e × (is_kept j (packets_in jobs j) e ≡ true)) (EntryOk s')
    (λ e k. f (place_of e) (packet_of e) k.0 (sym (kept-still j s.jobs jobs same e k.0.listed) ∙ k.1))
    (keep (is_kept j (packets_in jobs j)) q)
    (all_keep (EntryOk s) (is_kept j (packets_in jobs j)) q h)

-- a packet that is busy stays where it was submitted
abbrev pub Spots : Packet → Packet → Type 0
Spots p q = is_busy p.status ≡ true → (q.channel.0 ≡ p.channel.0) × (q.at ≡ p.at)
