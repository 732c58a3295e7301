-- `assign_core::is_run` meets its contract: the blocks that it asks about are those of the run. Assumes nothing.
use Prim.Native.Nat.{ℕ, ◌+◌, ◌-◌, ◌≤◌, ◌<◌}
use mathlib.Core.Path.{◌≡◌}
use mathlib.Core.Bool.{Bool, true, false}
use native.Mathlib.Omega.{arith}
use borrow.Author.Rules.{rules}
use borrow.Author.Tests.{tests}
use Rattle.std.specs.Bool.{MatchBool}
use Rattle.numbers.specs.Bits.{bit}
use Rattle.numbers.specs.Decides.{Decides}
use Rattle.numbers.specs.Limits.{first_block, last_block}
use Rattle.numbers.proofs.DecidesLaws.{yes, no}
use Rattle.assign_core.specs.Core.{Run}
use Rattle.assign_core.proofs.Ranges.{all_in}
use Rattle.assign_core.proofs.is_run.Goals as goal

by_blocks : (w n i : ℕ) (r : Bool) → first_block ≤ i → i ≤ last_block + 1 → n ≤ last_block + 1 - i
    → MatchBool r ((b : ℕ) → i ≤ b → b < i + n → bit w b ≡ 0) ((b : ℕ) × (i ≤ b) × (b < i + n) × (bit w b ≡ 0 → ⊥)) → Decides (Run w n i) r
by_blocks w n i true l m h f = yes (record { low = l; high = omega arith; free = λ b u v. f b v u })
by_blocks w n i false l m h f = no (λ r. f.3 (r.free f.0 f.2 f.1))

pub returns : goal.returns
returns c = by_blocks c.args.word c.args.n c.args.from c.all.result (omega arith) (omega arith) (omega arith)
    (all_in _ _ _ _ (λ b. bit c.args.word b ≡ 0) (λ b. bit c.args.word b ≡ 0 → ⊥) c.all.ensures.ran (λ x q k. search (rules, tests)) (λ x q k. search (rules, tests)))
