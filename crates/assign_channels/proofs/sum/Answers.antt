-- `assign_channels::sum` meets its contract, as std's sum. Assumes nothing.
use mathlib.Core.Path.{◌∙◌}
use borrow.Author.Rules.{rules}
use Rattle.std.proofs.iter.runs.Sources.{sums}
use Rattle.std.proofs.lemmas.Iterator.{YieldsList-from_slice, YieldsList-from_map}
use Rattle.std.proofs.lemmas.Iterator.Consumers.{sum_by_from_yields_List}
use Rattle.assign_channels.proofs.StdWords.{sum_total}
use Rattle.assign_channels.proofs.sum.Goals as goal

pub sum-requires-clause-fits : goal.sum-requires-clause-fits
sum-requires-clause-fits c = search (rules, sums)

pub returns : goal.returns
returns c =
    sum_by_from_yields_List (λ x. x) c.args.xs c.map.result _ c.sum.ensures.ran
    (YieldsList-from_map _ (λ x. x) (YieldsList-from_slice c.args.xs (cc)) c.map.ensures.closure (λ x r q k. search rules))
    ∙ sum_total c.args.xs
