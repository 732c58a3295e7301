-- `assign_core::search` meets its contract. The loops' invariants: no pair before the one at hand fits. Assumes
-- nothing.
use Prim.Native.Nat.{ℕ, ◌<◌, ◌+◌}
use mathlib.Core.Path.{subst}
use mathlib.Core.Logic.{⊎_elim}
use native.Mathlib.Nat.{eq-zero-or-pos}
use native.Mathlib.Omega.{arith}
use borrow.Author.Count.{below_more}
use Rattle.numbers.specs.Limits.{last_block}
use Rattle.assign_core.specs.Core.{Fits}
use Rattle.assign_core.proofs.search.Goals as goal
use Rattle.assign_core.proofs.search.Goals.{then-is_run+else-loop-j-test, else-is_run, then-db-eq0-via-then-db-eq0, then-db-eq0-via-else-db-eq0+then-is_beside}

-- where no DB start up to 30 fits, none does
none_left : {w ib db i : ℕ} (j : ℕ) → last_block + 1 < j → ((b : ℕ) → b < j → Fits w ib db i b → ⊥) → (b : ℕ) → Fits w ib db i b → ⊥
none_left {w} {ib} {db} {i} j h none b f =
    ⊎_elim (λ z. none 0 (omega arith) (record { instructions = f.instructions; data-run = λ p. absurd (omega arith) }))
    (λ p. none b (omega (arith, (f.data-run p).run)) f)
    (eq-zero-or-pos db)

pub loop-j-preserved : goal.loop-j-preserved
loop-j-preserved c = below_more _ _ c.loop-j.invariant (λ f. c.is_beside.ensures.1 c.if-is_beside.false (f.data-run (omega arith)))

pub loop-i-preserved : goal.loop-i-preserved
loop-i-preserved c =
    below_more _ _ c.loop-i.invariant (λ b f.
    elim c.if-is_run.branch [
      | then-is_run+else-loop-j-test w ↦ none_left w.loop-j.j (omega (arith, w)) w.loop-j.invariant b f
      | else-is_run w ↦ c.is_run.ensures.1 w.if-is_run.false f.instructions
    ])

pub returns-then-db-eq0 : goal.returns-then-db-eq0
returns-then-db-eq0 c = (
  record {
    instructions = c.is_run.ensures.0 c.if-is_run.true;
    data-run = λ p. elim c.then-db-eq0.branch [
      | then-db-eq0-via-then-db-eq0 w ↦ absurd (omega (arith, w))
      | then-db-eq0-via-else-db-eq0+then-is_beside w ↦ w.is_beside.ensures.0 w.if-is_beside.true
    ];
  },
  λ a b f. ⊎_elim (λ h. c.loop-i.invariant a h b f)
      (λ e. c.loop-j.invariant b e.1 (subst (λ (x : ℕ). Fits c.args.word c.args.ib c.args.db x b) e.0 f)),
)

pub returns-after-loop-i : goal.returns-after-loop-i
returns-after-loop-i c = λ a b f. c.loop-i.invariant a (omega (arith, f.instructions)) b f
