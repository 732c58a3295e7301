-- `assign_channels::count_ge` meets its contract: it adds 1 for each that passes. Assumes nothing.
use mathlib.Core.Path.{◌∙◌}
use mathlib.Core.Bool.{cond}
use native.Mathlib.Omega.{arith}
use lib.Dec.{leb}
use borrow.Author.Rules.{rules}
use borrow.Author.Tests.{tests}
use Rattle.std.proofs.lemmas.Iterator.{YieldsList-from_slice, YieldsList-from_map}
use Rattle.std.proofs.lemmas.Iterator.Consumers.{sum_by_from_yields_List, fits_by_from_yields_list}
use Rattle.std.proofs.lemmas.List.Sums.{count_by-le-length}
use Rattle.assign_channels.proofs.StdWords.{count_cnt}
use Rattle.assign_channels.proofs.count_ge.Goals as goal

pub sum-requires-clause-fits : goal.sum-requires-clause-fits
sum-requires-clause-fits c =
    fits_by_from_yields_list (λ x. cond (leb c.args.t x) 1 0) c.args.xs.now c.map.result _
    (YieldsList-from_map _ (λ x. cond (leb c.args.t x) 1 0) (YieldsList-from_slice c.args.xs.now (cc)) c.map.ensures.closure
    (λ x r q k. search (rules, tests)))
    (omega (arith, count_by-le-length (leb c.args.t) c.args.xs.now))

pub returns : goal.returns
returns c =
    sum_by_from_yields_List (λ x. cond (leb c.args.t x) 1 0) c.args.xs.now c.map.result _ c.sum.ensures.ran
    (YieldsList-from_map _ (λ x. cond (leb c.args.t x) 1 0) (YieldsList-from_slice c.args.xs.now (cc)) c.map.ensures.closure
    (λ x r q k. search (rules, tests)))
    ∙ count_cnt c.args.t c.args.xs.now
