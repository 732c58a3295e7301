-- The page Before holds: an accepted failure has one of the 60 codes, so that where all are listed it sets interlock;
-- no other call looks at the section. And there is such a section. Assumes nothing.
use Rattle.std.proofs.Common.{None, Ok, Some}
use Prim.Native.Nat.{ℕ, ◌-◌, ◌≤◌}
use mathlib.Core.Path.{◌≡◌, refl}
use mathlib.Core.Bool.{Bool, true, false, not, ◌||◌}
use mathlib.Core.Logic.{⊎_elim}
use mathlib.Core.Option.{Option, none, some}
use native.Mathlib.Nat.{eq-zero-or-pos}
use native.Mathlib.Omega.{arith}
use lib.Dec.{T, eqb, ltb}
use lib.ListN.{get_or, replicate, length-replicate}
use borrow.Author.Tests.{eqb-false, le-ltb, ltb-false, ne_eqb}
use Rattle.numbers.proofs.Tests.{by_bool, never}
use Rattle.numbers.specs.declared.Refusal.TheVariants.{NothingInProgress, OutOfRange, WrongCompletion}
use Rattle.channels.specs.Channels.{sets_interlock}
use Rattle.functions.proofs.Entries.{at, every}
use Rattle.packets.specs.Before.{AllListed, AsBefore, OnlyCompletions, all60, completed_before}
use Rattle.packets.specs.Before.{completes_before, is_completion, is_failure, with_codes}
use Rattle.numbers.specs.Elements.{find}
use Rattle.packets.specs.Rules.{Call, Do, Take, accept, answer, begins, closed, completed, completes, first, is_done, is_trouble}
use Rattle.packets.specs.Rules.{is_wrong, locked, moves_at, refusal, site_of, startable, started, submitted}
use Rattle.packets.specs.declared.Act.TheVariants as Act'
use Rattle.packets.specs.State.{State, configured, is_idle, motion_on, moving_status}
use Rattle.packets.specs.declared.How.{How}
use Rattle.packets.specs.declared.How.TheVariants.{Cut, Failed, Full}
use Rattle.packets.specs.State.{Motion}
use Rattle.packets.specs.declared.Site.{Site}
use Rattle.packets.specs.declared.Site.TheVariants.{AtUnit}
use Rattle.packets.specs.declared.Spot.{Spot}
use Rattle.packets.specs.declared.Status.{Status}
use Rattle.packets.proofs.Laws.{neither}
use Rattle.packets.proofs.Told.{completes-on}

-- a failure that is not refused has one of the 60 codes
a-failure : (codes : ℕ) → AllListed codes → (t : Status) (how : How) → is_wrong t how ≡ false → is_trouble codes how ≡ is_failure how
a-failure codes all t Full e = refl
a-failure codes all t Cut e = refl
a-failure codes all t (Failed k) e =
    let a = neither (eqb k 0o00) _ e in
    let b = neither (eqb k 0o01) _ a.1 in
    let c = neither (eqb k 0o16) _ b.1 in
    let d = neither (eqb k 0o17) (ltb 0o77 k) c.1 in
    let p = eqb-false k 0o00 a.0 in
    let q = eqb-false k 0o01 b.0 in
    all k (above k p q) (ltb-false 0o77 k d.1) (eqb-false k 0o16 c.0) (eqb-false k 0o17 d.0)
  where
    above : (k : ℕ) → (k ≡ 0 → ⊥) → (k ≡ 1 → ⊥) → 2 ≤ k
    above k p q =
        ⊎_elim (λ z. absurd (p z)) (λ z. ⊎_elim (λ y. absurd (q (omega arith))) (λ y. omega arith) (eq-zero-or-pos (k - 1))) (eq-zero-or-pos k)

pub as_before : AsBefore
unfolding accept answer
as_before s all c how r =
    let e = a-failure s.codes all (moving_status s (motion_on s c.0)) how (completes-on s c.0 how r).2 in
    (completed-same e (motion_on s c.0), completes-same e (motion_on s c.0))
  where
    completed-same : is_trouble s.codes how ≡ is_failure how → (m : Motion) → completed s c.0 how m ≡ completed_before s c.0 how m
    completed-same e None = refl
    completed-same e (Some (j, p)) = rw e

    completes-same : is_trouble s.codes how ≡ is_failure how → (m : Motion) → completes s c.0 how m ≡ completes_before s c.0 how m
    completes-same e None = refl
    completes-same e (Some (j, p)) = rw e

-- ---- the section matters to completions alone

module _ (codes : ℕ) (s : State) where
  no-refusal : (x : Call) → refusal (with_codes codes s) x ≡ refusal s x
  unfolding refusal
  no-refusal (Take j asg) = refl
  no-refusal (Do (Act'.Submit j p f c w)) = refl
  no-refusal (Do (Act'.Start c)) = refl
  no-refusal (Do (Act'.Complete c how)) = by-motion (motion_on s c.0)
    where
      by-motion : (m : Motion) → first (not (configured s.channels c.0)) OutOfRange
          (first (is_idle m) NothingInProgress (first (is_wrong (moving_status (with_codes codes s) m) how) WrongCompletion (Ok tt)))
          ≡ first (not (configured s.channels c.0)) OutOfRange
          (first (is_idle m) NothingInProgress (first (is_wrong (moving_status s m) how) WrongCompletion (Ok tt)))
      by-motion None = refl
      by-motion (Some (j, p)) = refl
  no-refusal (Do (Act'.End j e)) = refl
  no-refusal (Do (Act'.Return j c u)) = refl
  no-refusal (Do (Act'.Mark c u m on)) = refl

  submits-so : (j p f c : ℕ) (w : Spot) → submitted (with_codes codes s) j p f c w ≡ with_codes codes (submitted s j p f c w)
  submits-so j p f c w =
      by_bool (eqb f 0o07) (λ e. by_bool (locked s c (site_of w)) (λ d. rw (e, d)) (λ d. rw (e, d)))
      (λ e. by_bool (eqb f 0o23) (λ d. rw (e, d)) (λ d. rw (e, d)))

  starts-so : (c : ℕ) (o : Option ℕ)
      → (started (with_codes codes s) c o ≡ with_codes codes (started s c o)) × (begins (with_codes codes s) o ≡ begins s o)
  starts-so c none = (refl, refl)
  starts-so c (some e) = (refl, refl)

  moves_so : (j c : ℕ) (a : Site) (m : Motion) → moves_at (with_codes codes s) j c a m ≡ moves_at s j c a m
  moves_so j c a None = refl
  moves_so j c a (Some (k, p)) = refl

  leaves-so : (x : Call) → is_completion x ≡ false → accept (with_codes codes s) x ≡ with_codes codes (accept s x)
  unfolding accept
  leaves-so (Take j asg) n = refl
  leaves-so (Do (Act'.Submit j p f c w)) n = submits-so j p f c.0 w
  leaves-so (Do (Act'.Start c)) n = (starts-so c.0 (find (startable s c.0) s.queue)).0
  leaves-so (Do (Act'.Complete c how)) n = never {b = true} refl n
  leaves-so (Do (Act'.End j e)) n = by_bool (is_done (closed s j e) j) (λ d. rw d) (λ d. rw d)
  leaves-so (Do (Act'.Return j c u)) n = rw (moves_so j c.0 (AtUnit (record { 0 = u.0 })) (motion_on s c.0))
  leaves-so (Do (Act'.Mark c u m on)) n = refl

  answers-so : (x : Call) → is_completion x ≡ false → answer (with_codes codes s) x ≡ answer s x
  unfolding answer
  answers-so (Take j asg) n = refl
  answers-so (Do (Act'.Submit j p f c w)) n = refl
  answers-so (Do (Act'.Start c)) n = (starts-so c.0 (find (startable s c.0) s.queue)).1
  answers-so (Do (Act'.Complete c how)) n = never {b = true} refl n
  answers-so (Do (Act'.End j e)) n = refl
  answers-so (Do (Act'.Return j c u)) n = refl
  answers-so (Do (Act'.Mark c u m on)) n = refl

pub only-completions : OnlyCompletions
only-completions = record { refusals = no-refusal; leaves = leaves-so; answers = answers-so }

-- ---- there is a section of all 60 codes: one test over 64 codes, carried to each

listed-or-none : ℕ → ℕ → Bool
listed-or-none k x = ltb k 0o02 || (eqb k 0o16 || (eqb k 0o17 || sets_interlock all60 k))

tested : T (every listed-or-none 0 (replicate 64 0))
unfolding listed-or-none sets_interlock
tested = tt

pub all_listed : AllListed all60
unfolding listed-or-none
all_listed k low high no-16 no-17 =
    let t : T (listed-or-none k (get_or (replicate 64 0) k 0)) =
    at 0 listed-or-none (replicate 64 0) tested k (omega (arith, length-replicate {A = ℕ} 64 0)) in
    by_bool (sets_interlock all60 k) (λ e. e) (λ e. absurd (rw (le-ltb k 2 low, ne_eqb k 0o16 no-16, ne_eqb k 0o17 no-17, e) at t))
