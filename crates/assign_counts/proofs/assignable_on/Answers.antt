-- `assign_counts::assignable_on` meets its contract: it adds 1 for each unit that passes the definition's test.
-- Assumes nothing.
use Prim.Native.Nat.{ℕ}
use mathlib.Core.Path.{refl}
use native.Mathlib.Omega.{arith}
use borrow.Author.Rules.{rules}
use borrow.Author.Tests.{tests}
use Rattle.std.specs.List.{range_with_len}
use Rattle.std.proofs.lemmas.Iterator.{YieldsList-from_range, YieldsList-from_map}
use Rattle.std.proofs.lemmas.Iterator.Consumers.{sum_by_from_yields_List, fits_by_from_yields_list}
use Rattle.units.specs.State.{unit_in}
use Rattle.assign_heads.specs.Sums.{one}
use Rattle.assign_counts.proofs.Counting.{counts, few_seen, all_seen}
use Rattle.assign_counts.proofs.assignable_on.Goals as goal

pub sum-requires-clause-fits : goal.sum-requires-clause-fits
unfolding unit_in
sum-requires-clause-fits c =
    let value : ℕ → ℕ = λ u. one (counts c.args.grid c.args.channel.0 c.args.n u) in
    fits_by_from_yields_list value (range_with_len 0 16) c.map.result _
    (YieldsList-from_map _ value (YieldsList-from_range 0 16 16 (cc) refl) c.map.ensures.closure (λ x r q k. search (rules, tests)))
    (omega (arith, few_seen c.args.grid c.args.channel.0 c.args.n))

pub returns : goal.returns
unfolding unit_in
returns c =
    let value : ℕ → ℕ = λ u. one (counts c.args.grid c.args.channel.0 c.args.n u) in
    all_seen c.args.grid c.args.channel.0 c.args.n
    (sum_by_from_yields_List value (range_with_len 0 16) c.map.result _ c.sum.ensures.ran
    (YieldsList-from_map _ value (YieldsList-from_range 0 16 16 (cc) refl) c.map.ensures.closure (λ x r q k. search (rules, tests))))
