-- `assign_channels::can_serve` meets its contract: it asks of each entry what the threshold test does. Assumes nothing.
use Prim.Native.Nat.{ℕ, ◌-◌}
use mathlib.Core.Path.{◌≡◌, ◌∙◌, ap}
use mathlib.Core.Bool.{◌||◌}
use mathlib.Core.List.{List}
use lib.Dec.{leb, eqb}
use lib.ListN.{length, take, drop}
use borrow.Author.Rules.{rules}
use borrow.Author.Tests.{tests}
use Rattle.std.proofs.lemmas.Iterator.{YieldsList-from_slice}
use Rattle.std.proofs.lemmas.Iterator.Search.{all_from_yields_List}
use Rattle.assign_channels.specs.Greedy.{cnt, hall_b}
use Rattle.assign_channels.proofs.StdWords.{all_tests}
use Rattle.assign_channels.proofs.Loops.{lent_is}
use Rattle.assign_channels.proofs.can_serve.Goals as goal

pub returns : goal.returns
returns c =
    let n : length c.args.wants.0 ≡ 16 = search rules in
    let all : List ℕ = take (length c.args.wants.0 - c.min-start.result) (drop c.min-start.result c.args.wants.0) in
    let is : all ≡ drop c.args.from.0 c.args.wants.0 = lent_is c.args.wants.0 c.args.from.0 c.min-start.result n c.min-start.ensures in
    all_from_yields_List (λ n. eqb n 0 || leb (cnt n all) (cnt n c.args.counts.0)) _ _ _ c.all.ensures.ran
    (YieldsList-from_slice all c.iter.ensures.rest) (λ x b q k. search (rules, tests))
    ∙ all_tests c.args.counts.0 all all ∙ ap (hall_b c.args.counts.0) is
