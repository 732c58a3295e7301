-- `assign_heads::owners` meets its contract: each channel has its entry. Assumes nothing.
use Prim.Native.Nat.{ℕ}
use native.Mathlib.Omega.{arith}
use borrow.Author.Rules.{rules}
use Rattle.numbers.specs.declared.LogicalChannel.{LogicalChannel}
use Rattle.assign_heads.specs.Whose.{logical}
use Rattle.assign_heads.specs.Giving.{OwnerIs}
use Rattle.numbers.proofs.FromFn.{made}
use Rattle.assign_heads.proofs.owners.Goals as goal

pub returns : goal.returns
returns c = record {
  each = λ d h. made (λ (d : ℕ) (o : LogicalChannel). OwnerIs c.args.wants c.args.on d o.0) _ (logical 0) c.from_fn.result 0 16
      (λ x r q k. search rules) c.from_fn.ensures.items.each d (omega arith) (omega arith);
}
