-- Only a taking and a return change which places are live, their drum areas and core, and who holds a unit: every
-- other store leaves all that as it is, and so do the calls, up to a return. Assumes nothing.
use Rattle.std.proofs.Common.{None}
use Prim.Native.Nat.{ℕ}
use mathlib.Core.Path.{◌≡◌, refl, sym, ap, ◌∙◌, subst}
use mathlib.Core.Bool.{Bool, true, false, ◌&&◌}
use mathlib.Core.List.{List, map}
use native.Mathlib.Omega.{arith}
use native.Mathlib.Decide.{dec_lt}
use lib.ListN.{set}
use lib.Dec.{eqb}
use Rattle.numbers.proofs.Tests.{by_bool}
use Rattle.units.specs.State.{Square, marked_unit, unit_in, unit_set}
use Rattle.units.proofs.StateLaws.{set_past, set-square}
use Rattle.units.specs.declared.Mark.{Mark as UnitMark}
use Rattle.units.specs.declared.Unit.{Unit as UnitState}
use Rattle.packets.proofs.InvUnits.{mark-holder}
use Rattle.packets.proofs.Laws.{get_d-set-keep}
use Rattle.packets.specs.Rules.{aimed, always, begun, closed, closing, code_for, cut, enlist, failed, finished}
use Rattle.packets.specs.Rules.{is_at, is_trouble, locked, marked, over, packet, site_of, submitted}
use Rattle.packets.specs.State.{State, close, is_empty, is_unit, job_in, lock, move, no_job, packet_in, packet_of, place_of, put, restatus}
use Rattle.packets.specs.State.{restatus_all, set_state, state_in, store, sweep, with_lock, with_packets, with_state, with_status}
use Rattle.packets.proofs.Steps.{closing-alive}
use Rattle.packets.proofs.Store.{state-restatus, unit-keep}
use Rattle.packets.specs.declared.Core.{Core}
use Rattle.packets.specs.declared.How.{How}
use Rattle.packets.specs.declared.Job.{Job}
use Rattle.packets.specs.declared.JobState.{JobState}
use Rattle.packets.specs.declared.Packet.{Packet}
use Rattle.packets.specs.declared.Site.{Site}
use Rattle.packets.specs.declared.Site.TheVariants.{AtAddress, AtUnit}
use Rattle.packets.specs.declared.Spot.{Spot}
use Rattle.packets.specs.declared.Status.{Status}
use Rattle.packets.specs.declared.Status.TheVariants.{Ended, InProgress, Listed}

-- ---- stores that change nothing that a job holds

-- a job's drum area and core
pub record Share : Type 0 where
  pub from : ℕ
  pub words : ℕ
  pub core : Core

abbrev pub share : Job → Share
share k = record { from = k.from; words = k.words; core = k.core }

-- from one state to the next every place and every unit's holder is as it was
pub record Same (s s' : State) : Type 0 where
  pub empty : (i : ℕ) → is_empty (state_in s'.jobs i) ≡ is_empty (state_in s.jobs i)
  pub shares : (i : ℕ) → share (job_in s'.jobs i) ≡ share (job_in s.jobs i)
  pub holders : (c u : ℕ) → (unit_in s'.units c u).holder ≡ (unit_in s.units c u).holder
  pub square : Square s.units → Square s'.units

same-trans : {a b c : State} → Same a b → Same b c → Same a c
same-trans p q =
    record {
      empty = λ i. q.empty i ∙ p.empty i;
      shares = λ i. q.shares i ∙ p.shares i;
      holders = λ c u. q.holders c u ∙ p.holders c u;
      square = λ h. q.square (p.square h);
    }

-- the list and what moves are not asked
same_rest : (s s' : State) → s'.jobs ≡ s.jobs → s'.units ≡ s.units → Same s s'
same_rest s s' e d = record { empty = λ i. rw e; shares = λ i. rw e; holders = λ c u. rw d; square = λ h. rw d h }

-- the job in place j changed
same-job : (s s' : State) (j : ℕ) (k : Job) → s'.jobs ≡ set s.jobs j k → s'.units ≡ s.units
    → is_empty k.state ≡ is_empty (state_in s.jobs j) → share k ≡ share (job_in s.jobs j) → Same s s'
unfolding state_in
same-job s s' j k e d t v =
    record {
      empty = λ i. ap (λ (jobs : List Job). is_empty (state_in jobs i)) e ∙ get_d-set-keep (λ (x : Job). is_empty x.state) s.jobs j k i no_job t;
      shares = λ i. ap (λ (jobs : List Job). share (job_in jobs i)) e ∙ get_d-set-keep share s.jobs j k i no_job v;
      holders = λ c u. rw d;
      square = λ h. rw d h;
    }

-- one unit changed
pub squared : (units : List (List UnitState)) (c u : ℕ) (v : UnitState) → Square units → Square (unit_set units c u v)
squared units c u v q = elim (dec_lt c 16) [ yes k ↦ set-square units q c u v k | no k ↦ subst Square (sym (set_past units q c u v (omega arith))) q ]

same-unit : (s s' : State) (c u : ℕ) (v : UnitState) → s'.jobs ≡ s.jobs → s'.units ≡ unit_set s.units c u v
    → v.holder ≡ (unit_in s.units c u).holder → Same s s'
same-unit s s' c u v e d h =
    record {
      empty = λ i. rw e;
      shares = λ i. rw e;
      holders = λ b w. rw d (unit-keep (λ (x : UnitState). x.holder) s.units c u v b w h);
      square = λ q. rw d (squared s.units c u v q);
    }

same_store : (s : State) (j p : ℕ) (q : Packet) → Same s (store s j p q)
unfolding put state_in
same_store s j p q = same-job s (store s j p q) j (with_packets (job_in s.jobs j) (set (job_in s.jobs j).packets p q)) refl refl refl refl

pub same-swept : (s : State) (j : ℕ) (t : Packet → Bool) (f : Status → Status) → Same s (sweep s j t f)
unfolding restatus_all state_in
same-swept s j t f =
    same-job s (sweep s j t f) j (with_packets (job_in s.jobs j) (map (restatus t f) (job_in s.jobs j).packets)) refl refl refl refl

-- a live job closes
same-close : (s : State) (j : ℕ) (t : JobState) → is_empty (state_in s.jobs j) ≡ false → is_empty t ≡ false → Same s (close s j t)
unfolding set_state
same-close s j t was is = same-job s (close s j t) j (with_state (job_in s.jobs j) t) refl refl (is ∙ sym was) refl

same-lock : (s : State) (c : ℕ) (a : Site) (b : Bool) → Same s (lock s c a b)
same-lock s c (AtUnit u) b = same-unit s (lock s c (AtUnit u) b) c u.0 (with_lock (unit_in s.units c u.0) b) refl refl refl
same-lock s c (AtAddress x) b = same_rest s (lock s c (AtAddress x) b) refl refl

-- ---- the calls that change nothing that a job holds

pub same-submit : (s : State) (j p f c : ℕ) (w : Spot) → Same s (submitted s j p f c w)
same-submit s j p f c w =
    let a = site_of w in
    let done = packet (Ended 0o00) f c a in
    let swept = sweep s j (is_at c a) failed in
    by_bool (eqb f 0o07)
    (λ e. rw e (by_bool (locked s c a)
    (λ d. rw d (same-trans (same-swept s j (is_at c a) failed) (same-trans (same-lock swept c a false) (same_store (lock swept c a false) j p done))))
    (λ d. rw d (same_store s j p done))))
    (λ e. rw e (by_bool (eqb f 0o23)
    (λ d. let t = aimed c w in
    rw d (same-trans (same-swept s j t cut) (same_store (sweep s j t cut) j p done)))
    (λ d. let listed = packet Listed f c a in
    rw d (same-trans (same_store s j p listed) (same_rest (store s j p listed) (enlist s j p f c a) refl refl)))))

pub same-begun : (s : State) (c e : ℕ) → Same s (begun s c e)
same-begun s c e =
    let q = with_status (packet_in s.jobs (place_of e) (packet_of e)) InProgress in
    same-trans (same_store s (place_of e) (packet_of e) q) (same_rest (store s (place_of e) (packet_of e) q) (begun s c e) refl refl)

pub same-finished : (s : State) (c : ℕ) (how : How) (j p : ℕ) → Same s (finished s c how j p)
same-finished s c how j p =
    let q = with_status (packet_in s.jobs j p) (Ended (code_for how)) in
    let a = (packet_in s.jobs j p).at in
    let s₁ = over s c j p (code_for how) in
    let o : Same s s₁ = same-trans (same_rest s (move s c None) refl refl) (same_store (move s c None) j p q) in
    by_bool (is_trouble s.codes how && is_unit a)
    (λ e. rw e (same-trans o (same-trans (same-swept s₁ j (is_at c a) failed) (same-lock (sweep s₁ j (is_at c a) failed) c a true))))
    (λ e. rw e o)

pub same-closed : (s : State) (j : ℕ) (e : Bool) → is_empty (state_in s.jobs j) ≡ false → Same s (closed s j e)
same-closed s j e a =
    same-trans (same-swept s j always cut)
    (same-close (sweep s j always cut) j (closing e) (rw (state-restatus s.jobs j always cut j) a) (closing-alive e))

pub same-marked : (s : State) (c u : ℕ) (m : UnitMark) (on : Bool) → Same s (marked s c u m on)
same-marked s c u m on =
    same-unit s (marked s c u m on) c u (marked_unit m on (unit_in s.units c u)) refl refl (mark-holder m on (unit_in s.units c u))
