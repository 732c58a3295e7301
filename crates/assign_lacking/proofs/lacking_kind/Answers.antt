-- `assign_lacking::lacking_kind` meets its contract: the kinds before one have their units, by the law of the first kind
-- that is lacking. Assumes nothing.
use Rattle.std.specs.Prelude.{Some}
use Prim.Native.Nat.{ℕ}
use mathlib.Core.Path.{subst, sym}
use native.Mathlib.Omega.{arith}
use Rattle.numbers.specs.declared.Kind.{Kind}
use Rattle.numbers.proofs.Order.{one_more}
use Rattle.assign_channels.specs.declared.ByLogical.{ByLogical}
use Rattle.assign_counts.specs.Assignable.{counts_of}
use Rattle.assign.specs.Assignment.{wants_of}
use Rattle.assign.specs.Parts.{FirstOf, kinds}
use Rattle.assign.specs.declared.Part.TheVariants.{Units}
use Rattle.assign.proofs.FirstLaws.{first_kind, every-kind}
use Rattle.assign_lacking.specs.ByCounts.{Servable, HasUnits}
use Rattle.assign_lacking.proofs.lacking_kind.Goals as goal

pub returns-then-not-has_units : goal.returns-then-not-has_units
returns-then-not-has_units c =
    let there : ℕ → Type 0 = λ j. Servable (counts_of c.args.counts j) (wants_of c.args.wanted j) in
    let never = subst (λ (w : ByLogical). Servable (counts_of c.args.counts c.loop-order.order) w → ⊥) c.wants_of.ensures
    (c.has_units.ensures.1 c.if-not-has_units.true) in
    subst (λ (k : Kind). FirstOf (HasUnits c.args.counts c.args.wanted) kinds (Some (Units k))) (sym c.kind_at.ensures)
    (first_kind (HasUnits c.args.counts c.args.wanted) there (λ k x. x) (λ k x. x) c.loop-order.order c.loop-order-test.true c.loop-order.invariant.1 never)

pub loop-order-preserved : goal.loop-order-preserved
loop-order-preserved c =
    let here = subst (λ (w : ByLogical). Servable (counts_of c.args.counts c.loop-order.order) w) c.wants_of.ensures
    (c.has_units.ensures.0 c.if-not-has_units.false) in (
      omega (arith, c.loop-order-test.true),
      one_more (λ j. Servable (counts_of c.args.counts j) (wants_of c.args.wanted j)) c.loop-order.order c.loop-order.invariant.1 here,
    )

pub returns : goal.returns
returns c =
    every-kind (HasUnits c.args.counts c.args.wanted) (λ j. Servable (counts_of c.args.counts j) (wants_of c.args.wanted j)) (λ k x. x) (λ k x. x)
    (λ j h. c.loop-order.invariant.1 j (omega (arith, c.loop-order-test.false)))
