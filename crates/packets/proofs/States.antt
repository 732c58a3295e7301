-- What the calls do to the state of each place: a submission, a start, a completed packet and a unit's return nothing,
-- a job's end lets it close, and the return of all facilities empties the place. Assumes nothing.
use Prim.Native.Nat.{ℕ, ◌<◌}
use mathlib.Core.Path.{◌≡◌, ap, ◌∙◌}
use mathlib.Core.Bool.{Bool, true, cond, ◌&&◌}
use lib.Dec.{eqb}
use lib.ListN.{length}
use Rattle.numbers.proofs.Tests.{by_bool}
use Rattle.packets.proofs.Inv.{running-alive}
use Rattle.packets.proofs.Laws.{and_left}
use Rattle.packets.specs.Rules.{aimed, always, is_at, begun, closed, closing, code_for, cut, failed, finished, handed_back}
use Rattle.packets.specs.Rules.{is_done, is_trouble, locked, over, packet, returned, site_of, submitted}
use Rattle.packets.specs.State.{State, is_closing, is_running, is_unit, packet_in, packet_of, place_of, put, restatus_all, state_in, with_status}
use Rattle.packets.proofs.Steps.{closing-not-running}
use Rattle.packets.proofs.Store.{alive-in, length-restatus, state-put, state-restatus, state-state}
use Rattle.packets.specs.declared.How.{How}
use Rattle.packets.specs.declared.JobState.{JobState}
use Rattle.packets.specs.declared.JobState.TheVariants.{Empty}
use Rattle.packets.specs.declared.Packet.{Packet}
use Rattle.packets.specs.declared.Site.{Site}
use Rattle.packets.specs.declared.Spot.{Spot}
use Rattle.packets.specs.declared.Status.TheVariants.{Ended, InProgress, Listed}

-- ---- calls that leave the state of every place

-- the packets of one job swept, then one of them stored
states-swept : (s : State) (j p : ℕ) (t : Packet → Bool) (q : Packet) (i : ℕ)
    → state_in (put (restatus_all s.jobs j t failed) j p q) i ≡ state_in s.jobs i
states-swept s j p t q i = state-put (restatus_all s.jobs j t failed) j p q i ∙ state-restatus s.jobs j t failed i

pub states-submit : (s : State) (j p f c : ℕ) (w : Spot) (i : ℕ) → state_in (submitted s j p f c w).jobs i ≡ state_in s.jobs i
states-submit s j p f c w i =
    let a = site_of w in
    let done = packet (Ended 0o00) f c a in
    let t = aimed c w in
    by_bool (eqb f 0o07)
    (λ e. rw e (by_bool (locked s c a)
    (λ d. rw d (states-swept s j p (is_at c a) done i))
    (λ d. rw d (state-put s.jobs j p done i))))
    (λ e. rw e (by_bool (eqb f 0o23)
    (λ d. rw d (state-put (restatus_all s.jobs j t cut) j p done i ∙ state-restatus s.jobs j t cut i))
    (λ d. rw d (state-put s.jobs j p (packet Listed f c a) i))))

pub states-begun : (s : State) (c e i : ℕ) → state_in (begun s c e).jobs i ≡ state_in s.jobs i
states-begun s c e i = state-put s.jobs (place_of e) (packet_of e) (with_status (packet_in s.jobs (place_of e) (packet_of e)) InProgress) i

pub states-finished : (s : State) (c : ℕ) (how : How) (j p i : ℕ) → state_in (finished s c how j p).jobs i ≡ state_in s.jobs i
states-finished s c how j p i =
    let a = (packet_in s.jobs j p).at in
    let o : state_in (over s c j p (code_for how)).jobs i ≡ state_in s.jobs i =
    state-put s.jobs j p (with_status (packet_in s.jobs j p) (Ended (code_for how))) i in
    by_bool (is_trouble s.codes how && is_unit (packet_in s.jobs j p).at)
    (λ e. rw e (state-restatus (over s c j p (code_for how)).jobs j (is_at c a) failed i ∙ o))
    (λ e. rw e o)

pub states-handed : (s : State) (j c : ℕ) (a : Site) (i : ℕ) → state_in (handed_back s j c a).jobs i ≡ state_in s.jobs i
states-handed s j c a i = state-restatus s.jobs j (is_at c a) cut i

-- ---- calls that change the state of one place

-- a running job ends
pub states-closed : (s : State) (j : ℕ) (e : Bool) → is_running (state_in s.jobs j) ≡ true
    → (i : ℕ) → state_in (closed s j e).jobs i ≡ cond (eqb i j) (closing e) (state_in s.jobs i)
states-closed s j e r i =
    let h : j < length (restatus_all s.jobs j always cut) =
    rw (length-restatus s.jobs j always cut) (alive-in s.jobs j (running-alive (state_in s.jobs j) r)) in
    state-state (restatus_all s.jobs j always cut) j (closing e) i h
    ∙ ap (λ (t : JobState). cond (eqb i j) (closing e) t) (state-restatus s.jobs j always cut i)

-- a job that is done returns
pub states-returned : (s : State) (j : ℕ) → is_done s j ≡ true → (i : ℕ) → state_in (returned s j).jobs i ≡ cond (eqb i j) Empty (state_in s.jobs i)
states-returned s j d i =
    state-state s.jobs j Empty i
    (alive-in s.jobs j (closing-not-running (state_in s.jobs j) (and_left (is_closing (state_in s.jobs j)) _ d)).1)
