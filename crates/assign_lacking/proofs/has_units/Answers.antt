-- `assign_lacking::has_units` meets its contract: nothing is asked for, or the two tests. Assumes nothing.
use mathlib.Core.Path.{◌≡◌, sym, ◌∙◌}
use native.Mathlib.Omega.{arith}
use lib.ListN.{length}
use Rattle.assign_lacking.proofs.PartsLaws.{none-asked, too_few, tested}
use borrow.Author.Rules.{rules}
use Rattle.assign_lacking.proofs.has_units.Goals as goal

pub returns-then-sum-eq0 : goal.returns-then-sum-eq0
returns-then-sum-eq0 c =
    none-asked c.args.counts c.args.wants (sym c.sum-sum.ensures ∙ c.if-sum-eq0.true)

pub returns-then-sum : goal.returns-then-sum
returns-then-sum c =
    let wide : length c.args.counts.0 ≡ 16 = search rules in
    let size : length c.args.wants.0 ≡ 16 = search rules in
    too_few c.args.counts c.args.wants wide size
    (omega (arith, c.sum-sum.ensures, c.sum.ensures, c.if-sum.true))

pub returns : goal.returns
returns c =
    let wide : length c.args.counts.0 ≡ 16 = search rules in
    let size : length c.args.wants.0 ≡ 16 = search rules in
    tested c.args.counts c.args.wants wide size
    (omega (arith, c.sum-sum.ensures, c.sum.ensures, c.if-sum.false))
    c.can_serve.ensures
