-- What the lone unit refuses, one law for each of document 01's sentences, and that a refused call leaves it as it
-- was and starts nothing. So a lone unit that took more would not be proved. And that it reads its section as the cell
-- does, and hears calls in two parts as in one. Assumes nothing.
use Prim.Native.Nat.{ℕ, zero, suc, ◌/◌, ◌<◌}
use mathlib.Core.Path.{◌≡◌, refl, sym, ap, ◌∙◌}
use mathlib.Core.Bool.{Bool, true, false, not, cond, ◌&&◌}
use mathlib.Core.List.{List, [], ◌∷◌, ◌++◌, append_assoc}
use mathlib.Core.Option.{none, some}
use lib.Dec.{eqb, leb}
use borrow.Author.Tests.{lt-leb}
use Rattle.numbers.proofs.BitLaws.{bit-suc, bit-zero}
use Rattle.numbers.proofs.Tests.{by_bool}
use Rattle.channels.specs.Channels.{sets_interlock}
use Rattle.packets.proofs.Laws.{and_both, and_left, and_right}
use Rattle.packets.specs.Lone.{Completes, Ends, Lone, LoneCall, Returns, Starts, Submits, Target}
use Rattle.packets.specs.Lone.{has_listed, in_use, is_at_rest, is_halting, is_in, lone_does, lone_run}
use Rattle.packets.specs.Lone.{lone_start, lone_starts, lone_step, lone_takes, lone_takes_all, may_complete}
use Rattle.packets.specs.Lone.{start_by}
use Rattle.packets.specs.declared.How.{How}
use Rattle.packets.specs.declared.How.TheVariants.{Cut, Failed}

-- a code is in the section exactly if its bit is 1
pub in-section : (section k : ℕ) → is_in section k ≡ sets_interlock section k
unfolding is_in sets_interlock
in-section section zero = ap (λ (x : ℕ). eqb x 1) (sym (bit-zero section))
in-section section (suc k) = in-section (section / 2) k ∙ ap (λ (x : ℕ). eqb x 1) (sym (bit-suc section k))

-- a refused call leaves it as it was, and starts nothing
pub refused-stands : (section : ℕ) (drum : Bool) (l : Lone) (x : LoneCall) → lone_takes drum l x ≡ false → lone_step section drum l x ≡ l
unfolding lone_step
refused-stands section drum l x e = ap (λ (b : Bool). cond b (lone_does section drum l x) l) e

pub refused-starts : (drum : Bool) (l : Lone) (x : LoneCall) → lone_takes drum l x ≡ false → lone_start drum l x ≡ []
unfolding lone_start
refused-starts drum l x e = ap (λ (b : Bool). cond b (start_by l x) []) e

-- ---- calls one after the other, in two parts

module _ (section : ℕ) (drum : Bool) where
  pub run-append : (l : Lone) (x y : List LoneCall) → lone_run section drum l (x ++ y) ≡ lone_run section drum (lone_run section drum l x) y
  unfolding lone_run
  run-append l [] y = refl
  run-append l (c ∷ x) y = run-append (lone_step section drum l c) x y

  pub starts-append : (l : Lone) (x y : List LoneCall)
      → lone_starts section drum l (x ++ y) ≡ lone_starts section drum l x ++ lone_starts section drum (lone_run section drum l x) y
  unfolding lone_run lone_starts
  starts-append l [] y = refl
  starts-append l (c ∷ x) y = rw (starts-append (lone_step section drum l c) x y, append_assoc)

  pub takes-append : (l : Lone) (x y : List LoneCall) → lone_takes_all section drum l x ≡ true
      → lone_takes_all section drum (lone_run section drum l x) y ≡ true → lone_takes_all section drum l (x ++ y) ≡ true
  unfolding lone_run lone_takes_all
  takes-append l [] y a b = b
  takes-append l (c ∷ x) y a b =
      let l' = lone_step section drum l c in
      and_both _ _ (and_left (lone_takes drum l c) _ a) (takes-append l' x y (and_right (lone_takes drum l c) _ a) b)

-- ---- what it refuses

-- one of three tests fails
third : (a b c : Bool) → c ≡ false → a && (b && c) ≡ false
third true true c e = e
third true false c e = refl
third false b c e = refl

second : (a b c : Bool) → b ≡ false → a && (b && c) ≡ false
second true b c e = rw e
second false b c e = refl

module _ (drum : Bool) (l : Lone) where
  -- 6: a start while a packet is in progress or stopping
  pub no-second-start : (n : ℕ) → l.moving ≡ some n → lone_takes drum l Starts ≡ false
  unfolding lone_takes
  no-second-start n e = second (not l.job_over) (is_at_rest l.moving) _ (ap is_at_rest e)

  -- 7: a start under interlock, or of nothing
  pub no-start-under-interlock : l.interlock ≡ true → lone_takes drum l Starts ≡ false
  unfolding lone_takes
  no-start-under-interlock e =
      third (not l.job_over) (is_at_rest l.moving) _ (ap (λ (b : Bool). not b && has_listed l.order) e)

  pub no-start-of-nothing : l.order ≡ [] → lone_takes drum l Starts ≡ false
  unfolding lone_takes
  no-start-of-nothing e =
      third (not l.job_over) (is_at_rest l.moving) _ (by_bool l.interlock (λ b. rw b) (λ b. rw b (ap has_listed e)))

  -- 8: a completion with nothing in progress
  pub no-completion-at-rest : (how : How) → l.moving ≡ none → lone_takes drum l (Completes how) ≡ false
  unfolding lone_takes
  no-completion-at-rest how e = ap (may_complete l how) e

  -- 5: a submission of a packet that is listed, in progress or stopping
  pub no-submission-in-use : (n f : ℕ) (w : Target) → in_use (l.packets n).status ≡ true → lone_takes drum l (Submits n f w) ≡ false
  unfolding lone_takes
  no-submission-in-use n f w e = third (not l.job_over) (not l.returning) _ (ap not e)

  -- 2: nothing but completions after the job's end
  pub no-submission-after-the-end : (n f : ℕ) (w : Target) → l.job_over ≡ true → lone_takes drum l (Submits n f w) ≡ false
  unfolding lone_takes
  no-submission-after-the-end n f w e = rw e

  pub no-start-after-the-end : l.job_over ≡ true → lone_takes drum l Starts ≡ false
  unfolding lone_takes
  no-start-after-the-end e = rw e

  pub no-second-end : l.job_over ≡ true → lone_takes drum l Ends ≡ false
  unfolding lone_takes
  no-second-end e = rw e

  pub no-return-after-the-end : l.job_over ≡ true → lone_takes drum l Returns ≡ false
  unfolding lone_takes
  no-return-after-the-end e = second (not drum) (not l.job_over) _ (ap not e)

  -- 21: neither a submission nor a second return while it is being returned; 1: no return of a piece of drum
  pub no-submission-while-returning : (n f : ℕ) (w : Target) → l.returning ≡ true → lone_takes drum l (Submits n f w) ≡ false
  unfolding lone_takes
  no-submission-while-returning n f w e = second (not l.job_over) (not l.returning) _ (ap not e)

  pub no-second-return : l.returning ≡ true → lone_takes drum l Returns ≡ false
  unfolding lone_takes
  no-second-return e = third (not drum) (not l.job_over) _ (ap not e)

  pub no-return-of-drum : drum ≡ true → lone_takes drum l Returns ≡ false
  unfolding lone_takes
  no-return-of-drum e = rw e

-- 9: a cut for a packet not stopping; a failure with 00, 01, 16, 17 (octal) or over 77
module _ (drum : Bool) (l : Lone) (n : ℕ) (moves : l.moving ≡ some n) where
  pub no-cut-unless-stopping : is_halting (l.packets n).status ≡ false → lone_takes drum l (Completes Cut) ≡ false
  unfolding lone_takes
  no-cut-unless-stopping h = ap (may_complete l Cut) moves ∙ h

  -- a failure code of its own table
  no_code : (k : ℕ) → may_complete l (Failed k) (some n) ≡ false → lone_takes drum l (Completes (Failed k)) ≡ false
  unfolding lone_takes
  no_code k f = ap (may_complete l (Failed k)) moves ∙ f

  pub no-failure-with-00 : lone_takes drum l (Completes (Failed 0o00)) ≡ false
  no-failure-with-00 = no_code 0o00 refl

  pub no-failure-with-01 : lone_takes drum l (Completes (Failed 0o01)) ≡ false
  no-failure-with-01 = no_code 0o01 refl

  pub no-failure-with-16 : lone_takes drum l (Completes (Failed 0o16)) ≡ false
  no-failure-with-16 = no_code 0o16 refl

  pub no-failure-with-17 : lone_takes drum l (Completes (Failed 0o17)) ≡ false
  no-failure-with-17 = no_code 0o17 refl

  pub no-failure-over-77 : (k : ℕ) → 0o77 < k → lone_takes drum l (Completes (Failed k)) ≡ false
  no-failure-over-77 k h =
      no_code k (last (not (eqb k 0o00)) (not (eqb k 0o01)) (not (eqb k 0o16)) (not (eqb k 0o17)) (leb k 0o77) (lt-leb k 0o77 h))
    where
      last : (a b c d e : Bool) → e ≡ false → a && (b && (c && (d && e))) ≡ false
      last a b c d e z =
          by_bool a
          (λ t. rw t (by_bool b (λ u. rw u (by_bool c (λ v. rw v (by_bool d (λ w. rw (w, z)) (λ w. rw w))) (λ v. rw v))) (λ u. rw u)))
          (λ t. rw t)
