-- What a call's acceptance tells, and what the two changes of status leave alone. Assumes nothing.
use Rattle.std.proofs.Common.{Ok}
use Prim.Native.Nat.{ℕ, ◌<◌}
use mathlib.Core.Path.{◌≡◌, refl, sym, ap}
use mathlib.Core.Bool.{Bool, true, false, not, ◌&&◌}
use mathlib.Core.List.{List}
use lib.Dec.{ltb}
use borrow.Author.Tests.{ltb-true, not-false, not-true}
use Rattle.numbers.proofs.Tests.{never}
use Rattle.numbers.specs.Kinds.{is_drum}
use Rattle.numbers.specs.declared.Refusal.TheVariants.{BeingReturned, ChannelBusy, NoJob, NotLegal, NotTheJobs, NothingInProgress}
use Rattle.numbers.specs.declared.Refusal.TheVariants.{NoPlaceFree, NothingStartable, OutOfRange, PacketInUse, WrongCompletion}
use Rattle.units.specs.State.{is_returning, unit_in}
use Rattle.packets.specs.State.{in_motion, State, configured, drum_on, fitted_on, held_by, is_busy, is_drum_of, is_empty, is_idle, is_listed}
use Rattle.packets.specs.State.{is_running, job_in, legal_for, motion_on, moving_status, packet_in, state_in, is_unit, unit_at}
use Rattle.packets.proofs.Laws.{and_left, and_right, passes}
use Rattle.numbers.specs.Elements.{find}
use Rattle.packets.specs.Rules.{Take, cut, failed, in_range, is_none, is_own, is_wrong, reaches, refusal, site_of, startable}
use Rattle.packets.proofs.ByNumber.{Complete, End, Return, Start, Submit}
use Rattle.packets.specs.declared.Assignment.{Assignment}
use Rattle.channels.specs.declared.Channel.{Channel}
use Rattle.packets.specs.State.{Fitting}
use Rattle.std.proofs.Common.{None, Some}
use Rattle.packets.specs.declared.How.{How}
use Rattle.packets.specs.declared.Spot.{Spot}
use Rattle.packets.specs.declared.Spot.TheVariants.{OnDrum, OnUnit}
use Rattle.packets.specs.declared.Status.{Status}
use Rattle.packets.specs.declared.Status.TheVariants.{Blank, Ended, InProgress, Listed, Stopping}

pub configured-in : (g : List Channel) (c : ℕ) → configured g c ≡ true → c < 16
unfolding configured
configured-in g c e = ltb-true c 16 (and_left (ltb c 16) _ e)

-- ---- what a call's acceptance tells

-- the unit or drum address is the job's
abbrev pub owns : State → ℕ → ℕ → ℕ → Spot → Bool
owns s j f c w = is_own (job_in s.jobs j) (unit_at s.units c (site_of w)).holder j f w

pub record Submits (s : State) (j p f c : ℕ) (w : Spot) : Type 0 where
  pub small : p < 16
  pub running : is_running (state_in s.jobs j) ≡ true
  pub kind : is_unit (site_of w) ≡ not (drum_on s.channels c)
  pub owned : owns s j f c w ≡ true
  pub staying : is_returning (unit_at s.units c (site_of w)).holder ≡ false
  pub idle : is_busy (packet_in s.jobs j p).status ≡ false

-- only the drum has addresses, and it has no units
reached : (has : Fitting) (w : Spot) → reaches has w ≡ true → is_unit (site_of w) ≡ not (is_drum_of has)
reached None w e = never {b = false} e refl
reached (Some on) (OnUnit u) e = sym (and_left (not (is_drum on.kind)) _ e)
reached (Some on) (OnDrum x h) e = sym (ap not e)

pub submits : (s : State) (j p f c : ℕ) (w : Spot) → refusal s (Submit j p f c w) ≡ Ok tt → Submits s j p f c w
unfolding refusal drum_on state_in packet_in
submits s j p f c w e =
    let r₁ = passes (not (in_range (fitted_on s.channels c) j p f c w)) OutOfRange _ e in
    let r₂ = passes (not (is_running (state_in s.jobs j))) NoJob _ r₁.1 in
    let r₃ = passes (not (owns s j f c w)) NotTheJobs _ r₂.1 in
    let r₄ = passes (is_returning (unit_at s.units c (site_of w)).holder) BeingReturned _ r₃.1 in
    let r₅ = passes (not (legal_for (fitted_on s.channels c) f)) NotLegal _ r₄.1 in
    let r₆ = passes (is_busy (packet_in s.jobs j p).status) PacketInUse (Ok tt) r₅.1 in
    let t₁ = and_right (ltb j 16) _ (not-false (in_range (fitted_on s.channels c) j p f c w) r₁.0) in
    record {
      small = ltb-true p 16 (and_left (ltb p 16) _ t₁);
      running = not-false _ r₂.0;
      kind = reached (fitted_on s.channels c) w (and_right (ltb c 16) _ (and_right (ltb f 64) _ (and_right (ltb p 16) _ t₁)));
      owned = not-false _ r₃.0;
      staying = r₄.0;
      idle = r₆.0;
    }

-- the unit that is named is the job's
pub owns-unit : (s : State) (j p f c : ℕ) (w : Spot) → Submits s j p f c w → is_unit (site_of w) ≡ true
    → held_by (unit_at s.units c (site_of w)).holder j ≡ true
owns-unit s j p f c (OnUnit u) k e = k.owned
owns-unit s j p f c (OnDrum x h) k e = never {b = false} e refl

pub starts-on : (s : State) (c : ℕ) → refusal s (Start c) ≡ Ok tt
    → (c < 16) × (is_idle (motion_on s c) ≡ true) × (is_none (find (startable s c) s.queue) ≡ false)
unfolding refusal
starts-on s c e =
    let r₁ = passes (not (configured s.channels c)) OutOfRange _ e in
    let r₂ = passes (not (is_idle (motion_on s c))) ChannelBusy _ r₁.1 in
    let r₃ = passes (is_none (find (startable s c) s.queue)) NothingStartable (Ok tt) r₂.1 in
    (configured-in s.channels c (not-false _ r₁.0), not-false _ r₂.0, r₃.0)

pub completes-on : (s : State) (c : ℕ) (how : How) → refusal s (Complete c how) ≡ Ok tt
    → (c < 16) × (is_idle (motion_on s c) ≡ false) × (is_wrong (moving_status s (motion_on s c)) how ≡ false)
unfolding refusal
completes-on s c how e =
    let r₁ = passes (not (configured s.channels c)) OutOfRange _ e in
    let r₂ = passes (is_idle (motion_on s c)) NothingInProgress _ r₁.1 in
    let r₃ = passes (is_wrong (moving_status s (motion_on s c)) how) WrongCompletion (Ok tt) r₂.1 in
    (configured-in s.channels c (not-false _ r₁.0), r₂.0, r₃.0)

pub ends_of : (s : State) (j : ℕ) (e : Bool) → refusal s (End j e) ≡ Ok tt → is_running (state_in s.jobs j) ≡ true
unfolding refusal
ends_of s j e r =
    let r₁ = passes (not (ltb j 16)) OutOfRange _ r in
    let r₂ = passes (not (is_running (state_in s.jobs j))) NoJob (Ok tt) r₁.1 in
    not-false _ r₂.0

-- the job runs and holds the unit, whose return it has not asked for
pub record Returns (s : State) (j c u : ℕ) : Type 0 where
  pub running : is_running (state_in s.jobs j) ≡ true
  pub tape : drum_on s.channels c ≡ false
  pub held : held_by (unit_in s.units c u).holder j ≡ true
  pub staying : is_returning (unit_in s.units c u).holder ≡ false

pub returns_of : (s : State) (j c u : ℕ) → refusal s (Return j c u) ≡ Ok tt → Returns s j c u
unfolding refusal drum_on
returns_of s j c u e =
    let w = OnUnit (record { 0 = u }) in
    let has = fitted_on s.channels c in
    let v = unit_in s.units c u in
    let r₁ = passes (not (ltb j 16 && (ltb c 16 && reaches has w))) OutOfRange _ e in
    let r₂ = passes (not (is_running (state_in s.jobs j))) NoJob _ r₁.1 in
    let r₃ = passes (not (held_by v.holder j)) NotTheJobs _ r₂.1 in
    let r₄ = passes (is_returning v.holder) BeingReturned (Ok tt) r₃.1 in
    let there = and_right (ltb c 16) _ (and_right (ltb j 16) _ (not-false _ r₁.0)) in
    record {
      running = not-false _ r₂.0;
      tape = not-true _ (sym (reached has w there));
      held = not-false _ r₃.0;
      staying = r₄.0;
    }

pub assigns-to : (s : State) (j : ℕ) (asg : Assignment) → refusal s (Take j asg) ≡ Ok tt → (j < 16) × (is_empty (state_in s.jobs j) ≡ true)
unfolding refusal
assigns-to s j asg e =
    let r₁ = passes (not (ltb j 16 && is_empty (state_in s.jobs j))) NoPlaceFree (Ok tt) e in
    (ltb-true j 16 (and_left (ltb j 16) _ (not-false _ r₁.0)), and_right (ltb j 16) _ (not-false _ r₁.0))

-- ---- statuses under the two sweeps

pub failed-going : (x : Status) → in_motion x ≡ true → in_motion (failed x) ≡ true
failed-going Blank e = e
failed-going Listed e = e
failed-going InProgress e = e
failed-going Stopping e = e
failed-going (Ended k) e = e

pub cut-going : (x : Status) → in_motion x ≡ true → in_motion (cut x) ≡ true
cut-going Blank e = e
cut-going Listed e = e
cut-going InProgress e = refl
cut-going Stopping e = refl
cut-going (Ended k) e = e

pub failed-idle : (x : Status) → is_busy x ≡ false → failed x ≡ x
failed-idle Blank e = refl
failed-idle Listed e = never {b = true} refl e
failed-idle InProgress e = refl
failed-idle Stopping e = refl
failed-idle (Ended k) e = refl

pub cut-idle : (x : Status) → is_busy x ≡ false → cut x ≡ x
cut-idle Blank e = refl
cut-idle Listed e = never {b = true} refl e
cut-idle InProgress e = never {b = true} refl e
cut-idle Stopping e = refl
cut-idle (Ended k) e = refl

pub cut-unlisted : (x : Status) → is_listed (cut x) ≡ false
cut-unlisted Blank = refl
cut-unlisted Listed = refl
cut-unlisted InProgress = refl
cut-unlisted Stopping = refl
cut-unlisted (Ended k) = refl
