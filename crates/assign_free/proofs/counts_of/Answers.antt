-- `assign_free::counts_of` meets its contract: each channel has its number. Assumes nothing.
use Prim.Native.Nat.{ℕ}
use mathlib.Core.Path.{◌≡◌}
use native.Mathlib.Omega.{arith}
use lib.ListN.{get_or}
use borrow.Author.Rules.{rules}
use Rattle.channels.specs.Channels.{no_channel}
use Rattle.numbers.proofs.FromFn.{made}
use Rattle.assign_free.specs.Assignable.{units_of_kind}
use Rattle.assign_free.proofs.counts_of.Goals as goal

pub returns : goal.returns
returns c = record {
  long = c.from_fn.ensures.items.long;
  each = λ d h. made (λ (d n : ℕ). n ≡ units_of_kind c.args.order (get_or c.args.channels d no_channel)) _ 0 c.from_fn.result 0 16
      (λ x r q k. search rules) c.from_fn.ensures.items.each d (omega arith) (omega arith);
}
