-- `assign_heads::free_on` meets its contract: it adds 1 for each true entry of the channel's part. Assumes nothing.
use Prim.Native.Nat.{ℕ, ◌+◌, ◌-◌, ◌*◌}
use mathlib.Core.Path.{◌≡◌, ap, ◌∙◌}
use mathlib.Core.Bool.{Bool}
use mathlib.Core.List.{List}
use native.Mathlib.Omega.{arith}
use lib.ListN.{take, drop, length-take}
use borrow.Author.Rules.{rules}
use borrow.Author.Tests.{tests}
use Rattle.std.specs.List.{count_by}
use Rattle.std.proofs.lemmas.Iterator.{YieldsList-from_slice, YieldsList-from_map}
use Rattle.std.proofs.lemmas.Iterator.Consumers.{sum_by_from_yields_List, fits_by_from_yields_list}
use Rattle.std.proofs.lemmas.List.Sums.{count_by-le-length}
use Rattle.assign_heads.specs.Sums.{one, how_many}
use Rattle.assign_heads.specs.Whose.{free_at}
use Rattle.assign_heads.proofs.Turns.{part-count}
use Rattle.assign_heads.proofs.free_on.Goals as goal

pub sum-requires-clause-fits : goal.sum-requires-clause-fits
sum-requires-clause-fits c =
    let k = c.index_of-first.result in
    let part : List Bool = take (k + 16 - k) (drop k c.args.free.now) in
    fits_by_from_yields_list one part c.map.result _
    (YieldsList-from_map _ one (YieldsList-from_slice part (cc)) c.map.ensures.closure (λ x r q k. search (rules, tests)))
    (omega (arith, count_by-le-length (λ (b : Bool). b) part, length-take {A = Bool}))

pub returns : goal.returns
returns c =
    let k = c.index_of-first.result in
    let part : List Bool = take (k + 16 - k) (drop k c.args.free.now) in
    let e : k + 16 - k ≡ 16 = omega arith in
    let f : k ≡ c.args.channel.0 * 16 = omega (arith, c.index_of-first.ensures) in
    sum_by_from_yields_List one part c.map.result _ c.sum.ensures.ran
    (YieldsList-from_map _ one (YieldsList-from_slice part (cc)) c.map.ensures.closure (λ x r q k. search (rules, tests)))
    ∙ ap (λ (n : ℕ). count_by (λ (b : Bool). b) (take n (drop k c.args.free.now))) e
    ∙ part-count c.args.free.now k 16 ∙ ap (λ (n : ℕ). how_many 16 (λ u. free_at c.args.free.now (n + u))) f
