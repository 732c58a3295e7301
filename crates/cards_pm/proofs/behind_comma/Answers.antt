-- `cards_pm::behind_comma` meets its contract: the part behind the comma that was found. Assumes nothing.
use native.Mathlib.Omega.{arith}
use Rattle.cards_pm.proofs.PmLaws.{comma-none, comma-within, comma-rest}
use Rattle.cards_pm.proofs.behind_comma.Goals as goal

pub returns-then-at-s : goal.returns-then-at-s
returns-then-at-s c =
    comma-none c.args.s.now c.until-at.result c.until-at.ensures c.if-at-s.true

pub overflow_add-result : goal.overflow_add-result
overflow_add-result c = omega (arith, comma-within c.args.s.now c.until-at.result c.until-at.ensures c.if-at-s.false)

pub slice_bounds-result-count-2 : goal.slice_bounds-result-count-2
slice_bounds-result-count-2 c = comma-within c.args.s.now c.until-at.result c.until-at.ensures c.if-at-s.false

pub slice_bounds-result-start-2 : goal.slice_bounds-result-start-2
slice_bounds-result-start-2 c = comma-within c.args.s.now c.until-at.result c.until-at.ensures c.if-at-s.false

pub returns : goal.returns
returns c = comma-rest c.args.s.now c.until-at.result c.until-at.ensures
