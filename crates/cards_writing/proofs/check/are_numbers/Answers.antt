-- `cards_writing::check::are_numbers` meets its contract. The loop's invariant: the numbers before slot k fit, so
-- whether all do is said by those from there on. Assumes nothing.
use mathlib.Core.Path.{◌≡◌, refl, sym, ◌∙◌}
use native.Mathlib.Omega.{arith}
use lib.ListN.{length}
use Rattle.cards_request.specs.Requests.{counts}
use Rattle.cards_fac.specs.Fac.{asks_of}
use Rattle.cards_writing.proofs.CheckLaws.{number-high, number-low, numbers-done}
use borrow.Author.Rules.{rules}
use Rattle.cards_writing.proofs.check.are_numbers.Goals as goal

pub loop-k-init : goal.loop-k-init
loop-k-init c = refl

pub returns-then-limit_at-number_at : goal.returns-then-limit_at-number_at
returns-then-limit_at-number_at c =
    let l : length c.args.f.units ≡ counts = search rules in
    sym (number-high (asks_of c.args.f) c.loop-k.k c.number_at.result c.limit_at.result (omega arith) c.number_at.ensures c.limit_at.ensures
    c.if-limit_at-number_at.true)
    ∙ c.loop-k.invariant

pub loop-k-preserved : goal.loop-k-preserved
loop-k-preserved c =
    let l : length c.args.f.units ≡ counts = search rules in
    sym (number-low (asks_of c.args.f) c.loop-k.k c.number_at.result c.limit_at.result (omega arith) c.number_at.ensures
    c.limit_at.ensures c.if-limit_at-number_at.false)
    ∙ c.loop-k.invariant

pub returns : goal.returns
returns c =
    let l : length c.args.f.units ≡ counts = search rules in
    sym (numbers-done (asks_of c.args.f) c.loop-k.k (omega arith) (omega arith)) ∙ c.loop-k.invariant
