-- `cards_fields::parts::cuts` meets its contract: the bytes that cut are counted, each as one. Assumes nothing.
use Prim.Native.Nat.{ℕ, ◌+◌}
use mathlib.Core.Path.{◌≡◌, ap, ◌∙◌}
use mathlib.Core.Bool.{cond}
use native.Mathlib.Omega.{arith}
use lib.Dec.{eqb}
use Rattle.std.proofs.Common.{rules, tests}
use Rattle.std.specs.List.{count_by}
use Rattle.std.proofs.lemmas.Iterator.{YieldsList-from_slice, YieldsList-from_map}
use Rattle.std.proofs.lemmas.Iterator.Consumers.{sum_by_from_yields_List, fits_by_from_yields_list}
use Rattle.std.proofs.lemmas.List.Sums.{count_by-le-length}
use Rattle.cards_fields.proofs.PartLaws.{cut-count}
use Rattle.cards_fields.proofs.parts.cuts.Goals as goal

pub sum-requires-clause-fits : goal.sum-requires-clause-fits
sum-requires-clause-fits c =
    fits_by_from_yields_list (λ b. cond (eqb b c.args.cut) 1 0) c.args.s.now c.map.result _
    (YieldsList-from_map _ (λ b. cond (eqb b c.args.cut) 1 0) (YieldsList-from_slice c.args.s.now (cc)) c.map.ensures.closure
    (λ x r q k. search (rules, tests)))
    (omega (arith, count_by-le-length (λ b. eqb b c.args.cut) c.args.s.now))

pub returns : goal.returns
returns c =
    let e : c.sum.result ≡ count_by (λ b. eqb b c.args.cut) c.args.s.now =
    sum_by_from_yields_List (λ b. cond (eqb b c.args.cut) 1 0) c.args.s.now c.map.result _ c.sum.ensures.ran
    (YieldsList-from_map _ (λ b. cond (eqb b c.args.cut) 1 0) (YieldsList-from_slice c.args.s.now (cc)) c.map.ensures.closure
    (λ x r q k. search (rules, tests))) in
    ap (λ (n : ℕ). n + 1) e ∙ cut-count c.args.cut c.args.s.now
