-- `assign_heads::free_counts` meets its contract: each channel has its number. Assumes nothing.
use Prim.Native.Nat.{ℕ, ◌+◌, ◌*◌}
use mathlib.Core.Path.{◌≡◌}
use native.Mathlib.Omega.{arith}
use borrow.Author.Rules.{rules}
use Rattle.assign_heads.specs.Sums.{how_many}
use Rattle.assign_heads.specs.Whose.{free_at}
use Rattle.numbers.proofs.FromFn.{made}
use Rattle.assign_heads.proofs.free_counts.Goals as goal

pub returns : goal.returns
returns c = record {
  long = c.from_fn.ensures.items.long;
  each = λ d h. made (λ (d n : ℕ). n ≡ how_many 16 (λ u. free_at c.args.free.now (d * 16 + u))) _ 0 c.from_fn.result 0 16
      (λ x r q k. search rules) c.from_fn.ensures.items.each d (omega arith) (omega arith);
}
